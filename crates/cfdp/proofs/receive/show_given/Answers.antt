-- `cfdp::receive::show_given` meets its contract: a NAK, or that more is wanted.
use mathlib.Core.Path.{sym, ap, ◌∙◌}
use Rattle.std.specs.Prelude.{Option, Ok}
use Rattle.nak.specs.declared.Nak.{Nak}
use Rattle.receiver.specs.Receiving.{outcome_of}
use Rattle.cfdp.specs.Received.{outcome_shown}
use Rattle.cfdp.proofs.receive.show_given.Goals as goal

pub returns-in-None : goal.returns-in-None
unfolding outcome_shown
returns-in-None c = c.show_few.ensures ∙ ap (λ (o : Option Nak). outcome_shown (outcome_of (Ok o))) (sym c.in-None.is)

pub returns-in-Some : goal.returns-in-Some
unfolding outcome_shown
returns-in-Some c = c.put.ensures ∙ ap (λ (o : Option Nak). outcome_shown (outcome_of (Ok o))) (sym c.in-Some.is)
