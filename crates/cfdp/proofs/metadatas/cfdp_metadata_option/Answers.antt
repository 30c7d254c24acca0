-- `cfdp::metadatas::cfdp_metadata_option` meets its contract: cut, the end, or an option, as numbers.
use mathlib.Core.Path.{sym, ap, ◌∙◌}
use Rattle.std.specs.Prelude.{Ok}
use Rattle.cfdp.proofs.MetadataShown.{cut_shown, field_shown}
use Rattle.cfdp.proofs.metadatas.cfdp_metadata_option.Goals as goal

pub returns-in-Err : goal.returns-in-Err
returns-in-Err c = cut_shown _ _ _ _ (sym c.in-Err.is ∙ c.next_option.ensures) c.from.ensures c.show_refusal.ensures

pub returns-in-Ok-Some : goal.returns-in-Ok-Some
returns-in-Ok-Some c = field_shown _ _ _ (ap Ok (sym c.in-Ok-Some.field-0-is) ∙ sym c.in-Ok-Some.is ∙ c.next_option.ensures) c.show_option.ensures
