-- Lent numbers as arrays of two or three, and back as the numbers.
-- Assumes nothing.
use Prim.Native.Nat.{ℕ, zero, suc, ◌/◌, ◌%◌}
use mathlib.Core.Path.{◌≡◌, refl, ap, ◌∙◌}
use mathlib.Core.Bool.{Bool, ◌&&◌}
use mathlib.Core.List.{List, [], ◌∷◌}
use native.Mathlib.Omega.{arith}
use lib.Dec.{leb}
use lib.ListN.{length, get_or}
use Rattle.std.specs.List.{list_all}
use Rattle.std.specs.Simd.{first_chunks}
use Rattle.ranges.specs.Pairs.{twos}
use Rattle.plan.specs.Plans.{PlannedNak, threes, pair_numbers, each_fits, all_within}
use Rattle.plan.specs.Gaps.{pairs, naks_of}

pairs_twos : (n : ℕ) (ns : List ℕ) → n ≡ length ns / 2 → pairs (first_chunks 2 n ns) ≡ twos ns
pairs_twos zero [] h = refl
pairs_twos zero (x ∷ []) h = refl
pairs_twos zero (x ∷ y ∷ ns) h = absurd (let b : ⊥ = omega arith in b)
pairs_twos (suc n) [] h = absurd (let b : ⊥ = omega arith in b)
pairs_twos (suc n) (x ∷ []) h = absurd (let b : ⊥ = omega arith in b)
pairs_twos (suc n) (x ∷ y ∷ ns) h = ap (λ (l : List (ℕ × ℕ)). (x, y) ∷ l) (pairs_twos n ns (omega arith))

naks_threes : (n : ℕ) (ns : List ℕ) → n ≡ length ns / 3 → naks_of (first_chunks 3 n ns) ≡ threes ns
naks_threes zero [] h = refl
naks_threes zero (x ∷ []) h = refl
naks_threes zero (x ∷ y ∷ []) h = refl
naks_threes zero (x ∷ y ∷ z ∷ ns) h = absurd (let b : ⊥ = omega arith in b)
naks_threes (suc n) [] h = absurd (let b : ⊥ = omega arith in b)
naks_threes (suc n) (x ∷ []) h = absurd (let b : ⊥ = omega arith in b)
naks_threes (suc n) (x ∷ y ∷ []) h = absurd (let b : ⊥ = omega arith in b)
naks_threes (suc n) (x ∷ y ∷ z ∷ ns) h =
    ap (λ (l : List PlannedNak). record { start = x; end = y; count = z } ∷ l) (naks_threes n ns (omega arith))

pub pairs_are : (ns : List ℕ) (s : List (List ℕ)) → s ≡ first_chunks 2 (length ns / 2) ns → pairs s ≡ twos ns
pairs_are ns s e = ap pairs e ∙ pairs_twos (length ns / 2) ns refl

pub naks_are : (ns : List ℕ) (s : List (List ℕ)) → s ≡ first_chunks 3 (length ns / 3) ns → naks_of s ≡ threes ns
naks_are ns s e = ap naks_of e ∙ naks_threes (length ns / 3) ns refl

-- an even count of numbers is those of its pairs
pub pairs_back : (ns : List ℕ) → length ns % 2 ≡ 0 → pair_numbers (twos ns) ≡ ns
pairs_back [] e = refl
pairs_back (x ∷ []) e = absurd (let b : ⊥ = omega arith in b)
pairs_back (x ∷ y ∷ ns) e = ap (λ (l : List ℕ). x ∷ y ∷ l) (pairs_back ns (omega arith))

-- ---- what holds of all

pub all_fit : (most : ℕ) (s : List (List ℕ)) → list_all (λ c. leb (get_or c 2 0) most) s ≡ each_fits most (naks_of s)
all_fit most [] = refl
all_fit most (c ∷ s) = ap (λ (b : Bool). leb (get_or c 2 0) most && b) (all_fit most s)

pub all_lie : (start end : ℕ) (s : List (List ℕ)) → list_all (λ c. leb start (get_or c 0 0) && leb (get_or c 1 0) end) s ≡ all_within start end (pairs s)
all_lie start end [] = refl
all_lie start end (c ∷ s) = ap (λ (b : Bool). leb start (get_or c 0 0) && leb (get_or c 1 0) end && b) (all_lie start end s)
