-- `plan::checker::check_plan` meets its contract. What was judged good, and then the clauses.
use mathlib.Core.Path.{◌∙◌}
use Rattle.fields.proofs.Handed.{handed_on}
use Rattle.plan.proofs.Judging.{good, check_refused, check_made}
use Rattle.plan.proofs.checker.check_plan.Goals as goal

pub accepted-requires : goal.accepted-requires
accepted-requires c =
    let g = good _ _ _ _ _ _ _ c.in_ok-most.ensures in
    (g.are_apart, g.forwards)

pub returns-in_err-most : goal.returns-in_err-most
returns-in_err-most c = handed_on _ _ c.from_residual.ensures.1 ∙ check_refused _ _ _ _ _ _ _ _ c.in_err-most.ensures

pub returns : goal.returns
returns c =
    check_made _ _ _ _ _ _ _ _ _ c.in_ok-most.ensures c.accepted.ensures
