-- Checksum types: what each exit of the test gives, and that a type has four bits.
-- Assumes nothing.
use Prim.Native.Nat.{ℕ, ◌≤◌, ◌<◌}
use mathlib.Core.Path.{◌≡◌, refl, sym, ◌∙◌}
use mathlib.Core.Bool.{true, false}
use mathlib.Core.List.{[], ◌∷◌}
use native.Mathlib.Omega.{arith}
use native.Mathlib.Nat.{lt_of_not-le}
use native.Mathlib.Decide.{dec_le}
use borrow.Author.Tests.{le-leb, lt-leb, ne_eqb}
use Rattle.fields.specs.Answer.{accepted, told, all_of}
use Rattle.fields.proofs.Judging.{told_is_refused}
use Rattle.metadata.specs.Metadata.{is_type, type_tests}

module _ (kind : ℕ) where
  no_type : 3 < kind → (kind ≡ 15 → ⊥) → is_type kind ≡ false
  unfolding is_type
  no_type l n = rw (lt-leb _ _ l, ne_eqb _ _ n)

  pub type_lacks : 3 < kind → (kind ≡ 15 → ⊥) → told (30 ∷ []) ≡ all_of (type_tests kind)
  type_lacks l n = rw (told_is_refused 30 _ refl, no_type l n)

  pub type_none : kind ≡ 15 → accepted tt ≡ all_of (type_tests kind)
  unfolding is_type
  type_none e = rw e

  pub type_low : kind ≤ 3 → accepted tt ≡ all_of (type_tests kind)
  unfolding is_type
  type_low l = rw (le-leb _ _ l)

  pub type_small : is_type kind ≡ true → kind < 16
  type_small e =
      elim (dec_le kind 15) [
        | yes h ↦ omega arith
        | no k ↦
            let l : 15 < kind = lt_of_not-le k in
            let f : false ≡ true = sym (no_type (omega arith) (λ p. omega arith)) ∙ e in
            let z : ◌≡◌ {A = ℕ} 0 1 = cc in
            absurd (omega arith)
      ]
