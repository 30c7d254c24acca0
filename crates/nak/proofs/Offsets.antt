-- Lists of either kind of numbers: parts of them, and the first that is left. Once for both.
-- Assumes nothing.
use Prim.Native.Nat.{ℕ, suc, ◌+◌, ◌≤◌, ◌<◌}
use mathlib.Core.Path.{◌≡◌, sym, ap, ◌∙◌}
use mathlib.Core.List.{List, [], ◌∷◌, map}
use native.Mathlib.Omega.{arith}
use lib.ListN.{length, get_or, take, drop, drop_of_length-le}
use lib.Seq.{drop-cons}
use Rattle.std.proofs.lemmas.List.{take-map, drop-map, length-map}

module _ {A : Type 0} (number : A → ℕ) (numbers : List A → List ℕ) (each : (ns : List A) → numbers ns ≡ map number ns) where
  pub numbers_count : (ns : List A) → length (numbers ns) ≡ length ns
  numbers_count ns = ap length (each ns) ∙ length-map ns number

  pub numbers_part : (n k : ℕ) (ns : List A) → numbers (take n (drop k ns)) ≡ take n (drop k (numbers ns))
  numbers_part n k ns = each (take n (drop k ns)) ∙ sym (take-map number n (drop k ns)) ∙ ap (take n) (sym (drop-map number k ns) ∙ ap (drop k) (sym (each ns)))

  pub numbers_none : (ns : List A) (i : ℕ) → length ns ≤ i → numbers (drop i ns) ≡ []
  numbers_none ns i h = each (drop i ns) ∙ ap (map number) (drop_of_length-le ns h)

  pub numbers_left : (ns : List A) (i : ℕ) (d : A) → i < length ns → numbers (drop i ns) ≡ number (get_or ns i d) ∷ numbers (drop (i + 1) ns)
  numbers_left ns i d h =
      let one : suc i ≡ i + 1 = omega arith in
      let rest = drop (suc i) ns in
      ap numbers (drop-cons ns i d h)
      ∙ each (get_or ns i d ∷ rest)
      ∙ ap (λ (t : List ℕ). number (get_or ns i d) ∷ t) (sym (each rest) ∙ ap (λ (k : ℕ). numbers (drop k ns)) one)
