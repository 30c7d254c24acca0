-- The options of a Metadata PDU as numbers: an option is shown, its last numbers stored behind the others, or the end, or that it is cut.
-- Assumes nothing.
use Prim.Native.Nat.{ℕ}
use mathlib.Core.Path.{◌≡◌, ap, ◌∙◌}
use mathlib.Core.List.{List, [], ◌∷◌}
use lib.ListN.{set}
use Rattle.fields.specs.declared.refusal.Refusal.TheVariants.{FieldCut}
use Rattle.std.specs.Prelude.{Option, Some, None, Result, Ok, Err}
use Rattle.fields.specs.declared.refusal.Refusal.{Refusal}
use Rattle.tlv.specs.declared.walk.NextField.{NextField}
use Rattle.tlv.specs.declared.Cut.{Cut}
use Rattle.cfdp.specs.Shown.{padded, answer_size, refusal_shown}
use Rattle.cfdp.specs.MetadataNumbers.{option_shown}

pub option_numbers : (tag start stop next : ℕ) (out : List ℕ) → out ≡ padded answer_size (0 ∷ tag ∷ start ∷ [])
    → set (set out 3 stop) 4 next ≡ padded answer_size (0 ∷ tag ∷ start ∷ stop ∷ next ∷ [])
option_numbers tag start stop next out p = ap (λ (x : List ℕ). set (set x 3 stop) 4 next) p

module _ (k : Result (Option NextField) Cut) (out : List ℕ) where
  pub cut_shown : (cut : Cut) (r : Refusal) → Err cut ≡ k → r ≡ FieldCut cut.at → out ≡ refusal_shown r → out ≡ option_shown k
  unfolding refusal_shown option_shown
  cut_shown cut r e q p = p ∙ ap refusal_shown q ∙ ap option_shown e

  pub end_shown : Ok None ≡ k → out ≡ padded answer_size (0 ∷ 0 ∷ 0 ∷ []) → out ≡ option_shown k
  unfolding option_shown
  end_shown e p = p ∙ ap option_shown e

  pub field_shown : (n : NextField) → Ok (Some n) ≡ k
      → out ≡ padded answer_size (0 ∷ n.field.tag ∷ n.field.start ∷ n.field.stop ∷ n.next.at ∷ []) → out ≡ option_shown k
  unfolding option_shown
  field_shown n e p = p ∙ ap option_shown e
