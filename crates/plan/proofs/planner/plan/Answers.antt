-- `plan::planner::plan` meets its contract. A refused judgement changes nothing.
use mathlib.Core.Path.{◌∙◌}
use Rattle.fields.proofs.Handed.{handed_on}
use Rattle.plan.proofs.Judging.{good}
use Rattle.plan.proofs.Planning.{plan_refused, plan_judged}
use Rattle.plan.proofs.planner.plan.Goals as goal

pub plan_with-requires : goal.plan_with-requires
plan_with-requires c =
    (good _ _ _ _ _ _ _ c.in_ok-most.ensures).are_apart

pub returns-in_err-most : goal.returns-in_err-most
returns-in_err-most c =
    let a = c.args in
    let all = plan_refused a.header a.size a.received.now a.start a.«end» a.requests.now a.naks.now _ c.in_err-most.ensures in
    record { answered = handed_on _ _ c.from_residual.ensures.1 ∙ all.answered; requested = all.requested; dealt = all.dealt }

pub returns : goal.returns
returns c =
    let a = c.args in
    plan_judged a.header a.size a.received.now a.start a.«end» a.requests.now a.naks.now _ _ _ _
    c.in_ok-most.ensures c.plan_with.ensures
