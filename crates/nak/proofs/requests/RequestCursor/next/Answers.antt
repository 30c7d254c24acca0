-- `nak::requests::RequestCursor::next` meets its contract: a whole pair, or the end.
use native.Mathlib.Omega.{arith}
use Rattle.nak.proofs.Walking.{next_end, next_pair}
use Rattle.nak.proofs.requests.RequestCursor.next.Goals as goal

pub returns-then-area-at : goal.returns-then-area-at
returns-then-area-at c = next_end _ _ _ _ c.size_width-width.ensures.0 (omega arith)

pub returns-then-area-at-2 : goal.returns-then-area-at-2
returns-then-area-at-2 c = next_end _ _ _ _ c.size_width-width.ensures.0 (omega arith)

pub offset_at-requires : goal.offset_at-requires
offset_at-requires c = omega (arith, c.size_width-width.ensures.0)

pub offset_at-requires-2 : goal.offset_at-requires-2
offset_at-requires-2 c = omega (arith, c.size_width-width.ensures.0)

pub returns : goal.returns
returns c = next_pair _ _ _ _ _ _ c.size_width-width.ensures.0 (omega arith) c.offset_at.ensures c.offset_at-2.ensures
