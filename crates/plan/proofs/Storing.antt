-- Requests and NAKs stored one behind the other: a turn of each loop, and the whole.
-- Assumes nothing.
use Prim.Native.Nat.{ℕ, suc, ◌+◌, ◌-◌, ◌*◌, ◌≤◌, ◌<◌}
use mathlib.Core.Path.{◌≡◌, refl, sym, ap, ◌∙◌}
use mathlib.Core.List.{List, [], ◌∷◌}
use native.Mathlib.Omega.{arith}
use native.Mathlib.Nat.{suc-mul}
use lib.ListN.{length, get_or, take, drop, length-drop}
use lib.Seq.{sets, drop-cons}
use Rattle.std.proofs.lemmas.List.{get_or-take, drop-map}
use Rattle.plan.specs.Plans.{PlannedNak, nak_numbers}
use Rattle.plan.specs.Planning.{end_of, dealt}
use Rattle.plan.specs.Gaps.{pairs}

-- ---- dealing

dealt_suc : (n most left at end : ℕ) (ps : List (ℕ × ℕ))
    → dealt (suc (suc n)) most left at end ps ≡ record { start = at; end = end_of most ps; count = most } ∷ dealt (suc n) most (left - most) (end_of most ps) end (drop most ps)
unfolding dealt
dealt_suc n most left at end ps = refl

dealt_none : (most left at end : ℕ) (ps : List (ℕ × ℕ)) → dealt 0 most left at end ps ≡ []
unfolding dealt
dealt_none most left at end ps = refl

dealt_last : (most left at end : ℕ) (ps : List (ℕ × ℕ)) → dealt 1 most left at end ps ≡ record { start = at; end = end; count = left } ∷ []
unfolding dealt
dealt_last most left at end ps = refl

module _ (n most left at end : ℕ) (ps : List (ℕ × ℕ)) where
  pub dealt_over : n ≡ 0 → dealt n most left at end ps ≡ []
  dealt_over e = ap (λ (x : ℕ). dealt x most left at end ps) e ∙ dealt_none most left at end ps

  pub dealt_one : n ≡ 1 → dealt n most left at end ps ≡ record { start = at; end = end; count = left } ∷ []
  dealt_one e = ap (λ (x : ℕ). dealt x most left at end ps) e ∙ dealt_last most left at end ps

  pub dealt_more : 1 < n
      → dealt n most left at end ps ≡ record { start = at; end = end_of most ps; count = most } ∷ dealt (n - 1) most (left - most) (end_of most ps) end (drop most ps)
  dealt_more l =
      let e : n ≡ suc (suc (n - 2)) = omega arith in
      let e' : suc (n - 2) ≡ n - 1 = omega arith in
      ap (λ (x : ℕ). dealt x most left at end ps) e
      ∙ dealt_suc (n - 2) most left at end ps
      ∙ ap (λ (x : ℕ). record { start = at; end = end_of most ps; count = most } ∷ dealt x most (left - most) (end_of most ps) end (drop most ps)) e'

-- requests enough for all NAKs but the last are enough for the first, and then for the others
pub enough_more : (n most left : ℕ) → 1 < n → (n - 1) * most ≤ left → (most ≤ left) × ((n - 1 - 1) * most ≤ left - most)
enough_more n most left l h =
    let e : n - 1 ≡ suc (n - 2) = omega arith in
    let e' : n - 1 - 1 ≡ n - 2 = omega arith in
    let m : (n - 1) * most ≡ (n - 2) * most + most = ap (λ (x : ℕ). x * most) e ∙ suc-mul (n - 2) most in
    (omega arith, rw e' (omega arith))

-- ---- storing NAKs

-- where the request of that number ends, from 1
end_at : (rs : List (List ℕ)) (most : ℕ) → 0 < most → most ≤ length rs → end_of most (pairs rs) ≡ get_or (get_or rs (most - 1) []) 1 0
end_at rs most p l =
    let z : most - 1 < length rs = omega arith in
    rw (drop-map, drop-cons rs (most - 1) [] z)

module _ (rs : List (List ℕ)) (n most at end : ℕ) (out : List ℕ) (i : ℕ) where
  pub naks_over : n ≡ 0 → out ≡ sets out i (nak_numbers (dealt n most (length rs) at end (pairs rs)))
  naks_over e = sym (ap (λ (x : List PlannedNak). sets out i (nak_numbers x)) (dealt_over n most (length rs) at end (pairs rs) e))

  pub naks_last : n ≡ 1 → sets out i (at ∷ end ∷ length rs ∷ []) ≡ sets out i (nak_numbers (dealt n most (length rs) at end (pairs rs)))
  naks_last e = sym (ap (λ (x : List PlannedNak). sets out i (nak_numbers x)) (dealt_one n most (length rs) at end (pairs rs) e))

  pub naks_turn : (own others : List (List ℕ)) (m j : ℕ) (out' : List ℕ) → own ≡ take most rs → others ≡ drop most rs → m ≡ n - 1 → j ≡ i + 3 → 1 < n → 0 < most → most ≤ length rs
      → out' ≡ sets out i (at ∷ get_or (get_or own (most - 1) []) 1 0 ∷ most ∷ [])
      → sets out' j (nak_numbers (dealt m most (length others) (get_or (get_or own (most - 1) []) 1 0) end (pairs others))) ≡ sets out i (nak_numbers (dealt n most (length rs) at end (pairs rs)))
  naks_turn own others m j out' o r d t l p k q =
      let z : i + 3 ≡ suc (suc (suc i)) = omega arith in
      let e : get_or own (most - 1) [] ≡ get_or rs (most - 1) [] = ap (λ (x : List (List ℕ)). get_or x (most - 1) []) o ∙ get_or-take most rs (most - 1) [] (omega arith) in
      rw (d, q, t, z, r, e, length-drop, dealt_more n most (length rs) at end (pairs rs) l, end_at rs most p k, drop-map)
