-- `ranges::differ::compare_pairs` meets its contract: each test that holds is the answer, and behind them the ranges are counted and stored.
use Rattle.ranges.proofs.Differing.{others_rise, first_wrong, second_wrong, not_one_transaction, too_many_lem, all_stored}
use Rattle.ranges.proofs.differ.compare_pairs.Goals as goal

pub returns-in_err-asked1 : goal.returns-in_err-asked1
returns-in_err-asked1 c = first_wrong _ _ _ _ _ _ c.from_residual.ensures.1 c.in_err-asked1.ensures

pub returns-in_err-asked2 : goal.returns-in_err-asked2
returns-in_err-asked2 c = second_wrong _ _ _ _ _ c.in_ok-asked1.ensures _ _ c.from_residual-in_err-asked2.ensures.1 c.in_err-asked2.ensures

pub returns-then-not-same : goal.returns-then-not-same
returns-then-not-same c = not_one_transaction _ _ _ _ _ c.in_ok-asked1.ensures _ c.in_ok-asked2.ensures c.if-not-same.true

pub merge-ranges-requires : goal.merge-ranges-requires
merge-ranges-requires c = (others_rise _ _ c.in_ok-asked1.ensures, others_rise _ _ c.in_ok-asked2.ensures)

pub returns-then-lent-ranges : goal.returns-then-lent-ranges
returns-then-lent-ranges c =
    too_many_lem _ _ _ _ _ c.in_ok-asked1.ensures _ c.in_ok-asked2.ensures c.if-not-same.false _ c.merge-ranges.ensures.answered c.if-lent-ranges.true

pub merge-requires : goal.merge-requires
merge-requires c = (others_rise _ _ c.in_ok-asked1.ensures, others_rise _ _ c.in_ok-asked2.ensures)

pub returns : goal.returns
returns c =
    all_stored _ _ _ _ _ c.in_ok-asked1.ensures _ c.in_ok-asked2.ensures c.if-not-same.false _ c.merge-ranges.ensures.answered _ c.if-lent-ranges.false
    c.merge.ensures.stored
