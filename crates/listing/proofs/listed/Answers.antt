-- `listing::listed` meets its contract: no refusal is an acceptance.
use mathlib.Core.Path.{refl, sym, ap, ◌∙◌}
use mathlib.Core.Bool.{false}
use Rattle.fields.specs.Answer.{answer_of}
use Rattle.fields.proofs.Judging.{told_either}
use Rattle.listing.specs.Listing.{is_accepted}
use Rattle.listing.proofs.listed.Goals as goal

pub returns-in-Err : goal.returns-in-Err
returns-in-Err g c = sym (told_either is_accepted false _ (λ _ _. refl) (λ _. refl)) ∙ ap is_accepted (ap answer_of (sym c.in-Err.is))
