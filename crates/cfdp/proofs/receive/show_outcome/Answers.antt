-- `cfdp::receive::show_outcome` meets its contract: what is given, or a refusal.
use mathlib.Core.Path.{sym, ap, ◌∙◌}
use Rattle.std.specs.Prelude.{Option, Result}
use Rattle.fields.specs.declared.refusal.Refusal.{Refusal}
use Rattle.nak.specs.declared.Nak.{Nak}
use Rattle.receiver.specs.Receiving.{outcome_of}
use Rattle.cfdp.specs.Shown.{refusal_shown}
use Rattle.cfdp.specs.Received.{outcome_shown}
use Rattle.cfdp.proofs.receive.show_outcome.Goals as goal

pub returns-in-Err : goal.returns-in-Err
unfolding outcome_shown refusal_shown
returns-in-Err c = c.show_refusal.ensures ∙ ap (λ (o : Result (Option Nak) Refusal). outcome_shown (outcome_of o)) (sym c.in-Err.is)

pub returns-in-Ok : goal.returns-in-Ok
returns-in-Ok c = c.show_given.ensures ∙ ap (λ (o : Result (Option Nak) Refusal). outcome_shown (outcome_of o)) (sym c.in-Ok.is)
