-- `cfdp::plans::cfdp_plan` meets its contract: what the planner says and stores, of the header that was given.
use mathlib.Core.Path.{sym, ap, ◌∙◌}
use Rattle.fields.specs.Answer.{answer_of}
use Rattle.cfdp.specs.Shown.{shown}
use Rattle.cfdp.specs.Plans.{plan_numbers}
use Rattle.cfdp.proofs.Given.{none_shown, none_left, given_shown, given_left}
use Rattle.cfdp.proofs.plans.cfdp_plan.Goals as goal

pub returns-in-Err : goal.returns-in-Err
returns-in-Err c =
    let header-from = c.header_from-joined in
    record { answered = none_shown plan_numbers _ _ _ _ (ap answer_of (sym c.in-Err.is) ∙ header-from.ensures) c.show_refusal.ensures; requested = none_left _ _ _ _ (ap answer_of (sym c.in-Err.is) ∙ header-from.ensures); dealt = none_left _ _ _ _ (ap answer_of (sym c.in-Err.is) ∙ header-from.ensures) }

pub returns-in-Ok : goal.returns-in-Ok
returns-in-Ok c =
    let header-from = c.header_from-joined in
    let plan = c.plan-planned in
    record {
      answered = given_shown plan_numbers _ _ _ _ (ap answer_of (sym c.in-Ok.is) ∙ header-from.ensures)
          (c.show.ensures ∙ ap (shown plan_numbers) plan.ensures.answered);
      requested = given_left _ _ _ _ _ (ap answer_of (sym c.in-Ok.is) ∙ header-from.ensures) plan.ensures.requested;
      dealt = given_left _ _ _ _ _ (ap answer_of (sym c.in-Ok.is) ∙ header-from.ensures) plan.ensures.dealt;
    }
