-- `listing::pdus::list_other` meets its contract: no refusal but 8 names a directive.
use mathlib.Core.Path.{◌∙◌}
use Rattle.listing.proofs.Deciding.{not_named}
use Rattle.listing.proofs.pdus.list_other.Goals as goal

pub returns-in_default : goal.returns-in_default
returns-in_default c = c.list_refusal.ensures ∙ not_named c.args.refusal c.args.buf.now c.in_default.not-WrongDirectiveType
