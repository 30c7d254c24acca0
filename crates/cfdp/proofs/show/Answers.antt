-- `cfdp::show` meets its contract: the refusal, or the value's own numbers behind 0.
use mathlib.Core.Path.{sym, ap}
use Rattle.fields.specs.Answer.{answer_of}
use Rattle.cfdp.proofs.Shown.{refused_shown, accepted_shown}
use Rattle.cfdp.proofs.show.Goals as goal

pub returns-in-Err : goal.returns-in-Err
returns-in-Err g c = refused_shown g.T.Numbers.numbers _ _ _ (ap answer_of (sym c.in-Err.is)) c.show_refusal.ensures

pub returns-in-Ok : goal.returns-in-Ok
returns-in-Ok g c = accepted_shown g.T.Numbers.numbers _ _ _ (ap answer_of (sym c.in-Ok.is)) c.put.ensures
