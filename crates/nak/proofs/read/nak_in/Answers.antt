-- `nak::read::nak_in` meets its contract: each number is read at its place.
use native.Mathlib.Omega.{arith}
use Rattle.nak.proofs.Reading.{scope_lies, nak_is}
use Rattle.nak.proofs.read.nak_in.Goals as goal

pub offset_at-start_of_scope-requires : goal.offset_at-start_of_scope-requires
offset_at-start_of_scope-requires c = omega (arith, scope_lies c.args.header c.args.content.now c.requires.0 c.requires.1)

pub offset_at-end_of_scope-requires : goal.offset_at-end_of_scope-requires
offset_at-end_of_scope-requires c =
    omega (arith, scope_lies c.args.header c.args.content.now c.requires.0 c.requires.1, c.size_width-width.ensures.0)

pub returns : goal.returns
returns c =
    nak_is _ _ c.requires.0 c.requires.1 _ _ _ _ _ c.area_start-area.ensures.0 c.data_end-stop.ensures c.size_width-width.ensures.0
    c.offset_at-start_of_scope.ensures c.offset_at-end_of_scope.ensures
