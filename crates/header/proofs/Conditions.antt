-- Condition codes: what each arm of the `match` gives, and that they have four bits.
-- Assumes nothing.
use Prim.Native.Nat.{ℕ, ◌≤◌, ◌<◌}
use mathlib.Core.Path.{◌≡◌, refl, sym, ◌∙◌}
use mathlib.Core.Bool.{true, false}
use mathlib.Core.List.{[], ◌∷◌}
use native.Mathlib.Omega.{arith}
use native.Mathlib.Nat.{lt_of_not-le}
use native.Mathlib.Decide.{dec_le}
use borrow.Author.Tests.{le-leb, lt-leb}
use Rattle.fields.specs.Answer.{accepted, told, all_of}
use Rattle.fields.proofs.Judging.{told_is_refused}
use Rattle.header.specs.Condition.{is_condition, reserved_condition}

module _ (c : ℕ) where
  reserved : is_condition c ≡ false → told (16 ∷ []) ≡ all_of (reserved_condition c ∷ [])
  reserved e = rw (told_is_refused 16 _ refl, e)

  allowed : is_condition c ≡ true → accepted tt ≡ all_of (reserved_condition c ∷ [])
  allowed e = rw e

  above : 16 ≤ c → is_condition c ≡ false
  unfolding is_condition
  above l = rw (lt-leb c 11 (omega arith), le-leb 14 c (omega arith), lt-leb c 15 l)

  pub condition_low : c < 12 → accepted tt ≡ all_of (reserved_condition c ∷ [])
  unfolding is_condition
  condition_low l = allowed (rw (le-leb c 11 (omega arith)))

  pub condition_between : 12 ≤ c → c < 14 → told (16 ∷ []) ≡ all_of (reserved_condition c ∷ [])
  unfolding is_condition
  condition_between l m = reserved (rw (lt-leb c 11 l, lt-leb 14 c m))

  pub condition_high : 14 ≤ c → c < 16 → accepted tt ≡ all_of (reserved_condition c ∷ [])
  unfolding is_condition
  condition_high l m = allowed (rw (lt-leb c 11 (omega arith), le-leb 14 c l, le-leb c 15 (omega arith)))

  pub condition_above : 16 ≤ c → told (16 ∷ []) ≡ all_of (reserved_condition c ∷ [])
  condition_above l = reserved (above l)

  -- a condition code has four bits
  pub condition_small : is_condition c ≡ true → c < 16
  condition_small e =
      elim (dec_le c 15) [
        | yes h ↦ omega arith
        | no k ↦
            let l : 15 < c = lt_of_not-le k in
            let f : false ≡ true = sym (above l) ∙ e in
            let z : ◌≡◌ {A = ℕ} 0 1 = cc in
            absurd (omega arith)
      ]
