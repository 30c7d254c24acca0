-- `ranges::owed::is_state` meets its contract: the count is tested, and then the ranges.
use native.Mathlib.Omega.{arith}
use Rattle.ranges.proofs.Memory.{state_many, state_few}
use Rattle.ranges.proofs.owed.is_state.Goals as goal

pub returns-then-count-gt-MOST : goal.returns-then-count-gt-MOST
returns-then-count-gt-MOST c = state_many _ c.if-count-gt-MOST.true

pub rise-requires : goal.rise-requires
rise-requires c = (omega arith, c.if-count-gt-MOST.false)

pub returns : goal.returns
returns c = state_few _ _ c.if-count-gt-MOST.false c.rise.ensures
