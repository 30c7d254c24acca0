-- `listing::pdus::list` meets its contract: the NAK's reader decides, or names the directive.
use mathlib.Core.Path.{sym, ap, ◌∙◌}
use Rattle.fields.specs.Answer.{answer_of}
use Rattle.listing.proofs.Deciding.{other_listed, nak_listed}
use Rattle.listing.proofs.pdus.list.Goals as goal

pub returns-in-Err : goal.returns-in-Err
returns-in-Err c =
    let from_bytes = c.from_bytes-read in
    other_listed c.in-Err.refusal _ _ c.list_other.ensures (ap answer_of (sym c.in-Err.is) ∙ from_bytes.ensures)

pub returns-in-Ok : goal.returns-in-Ok
returns-in-Ok c = nak_listed _ _ (ap answer_of (sym c.in-Ok.is) ∙ c.from_bytes-read.ensures)
