-- A run's answer as numbers: the answer's own, and the offset behind them.
-- Assumes nothing.
use Prim.Native.Nat.{ℕ}
use mathlib.Core.Path.{◌≡◌, ap, ap₂}
use mathlib.Core.List.{List, [], ◌∷◌}
use lib.ListN.{set}
use Rattle.fields.specs.declared.refusal.Refusal.{Refusal}
use Rattle.fields.specs.Refusal.{paper}
use Rattle.fields.specs.Answer.{Answer, accepted, told}
use Rattle.cfdp.specs.Shown.{padded, answer_size, refusal_shown}
use Rattle.cfdp.specs.Standing.{no_numbers, standing}
use Rattle.cfdp.proofs.Shown.{refused_shown, accepted_shown}

module _ (o : Answer (Unit {0}) × ℕ) (at : ℕ) (out : List ℕ) where
  pub refused_standing : (r : Refusal) → (told (paper r), at) ≡ o → out ≡ refusal_shown r → set out 3 at ≡ standing o
  unfolding standing
  refused_standing r e p =
      ap₂ (λ (x : List ℕ) (i : ℕ). set x 3 i) (refused_shown no_numbers r o.0 out (ap (λ (x : Answer (Unit {0}) × ℕ). x.0) e) p)
      (ap (λ (x : Answer (Unit {0}) × ℕ). x.1) e)

  pub ended_standing : (accepted tt, at) ≡ o → out ≡ padded answer_size (0 ∷ 0 ∷ 0 ∷ []) → set out 3 at ≡ standing o
  unfolding standing
  ended_standing e p =
      ap₂ (λ (x : List ℕ) (i : ℕ). set x 3 i) (accepted_shown no_numbers tt o.0 out (ap (λ (x : Answer (Unit {0}) × ℕ). x.0) e) p)
      (ap (λ (x : Answer (Unit {0}) × ℕ). x.1) e)
