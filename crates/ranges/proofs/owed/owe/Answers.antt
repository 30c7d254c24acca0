-- `ranges::owed::owe` meets its contract: the ranges are counted after the merge, and stored where they are not too many.
use native.Mathlib.Omega.{arith}
use Rattle.ranges.proofs.Memory.{is_state_lem}
use Rattle.ranges.proofs.Entering.{owe_many, owe_done}
use Rattle.ranges.proofs.owed.owe.Goals as goal

pub overflow_mul-used : goal.overflow_mul-used
overflow_mul-used c = record { fits = omega (arith, (is_state_lem _ c.requires.0).0) }

pub shared_ref_as_front-kept : goal.shared_ref_as_front-kept
shared_ref_as_front-kept c = omega (arith, (is_state_lem _ c.requires.0).0)

pub merge-owed-requires : goal.merge-owed-requires
merge-owed-requires c = ((is_state_lem _ c.requires.0).1, c.requires.1)

pub returns-then-owed-gt-MOST : goal.returns-then-owed-gt-MOST
returns-then-owed-gt-MOST c = owe_many _ _ _ _ _ c.merge-owed.ensures.answered c.if-owed-gt-MOST.true

pub returns : goal.returns
returns c =
    let merge = c.merge-owed in
    owe_done _ _ _ _ _ merge.ensures.answered _ _ c.if-owed-gt-MOST.false merge.ensures.stored c.put.ensures
