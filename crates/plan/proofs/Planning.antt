-- The planner: how many NAKs, what they are, and its answer and stores at each exit.
-- Assumes nothing.
use Prim.Native.Nat.{ℕ, zero, suc, ◌+◌, ◌-◌, ◌*◌, ◌/◌, ◌%◌, ◌≤◌, ◌<◌, min}
use mathlib.Core.Path.{◌≡◌, refl, sym, ap, ap₂, ◌∙◌}
use mathlib.Core.Bool.{true, false, ◌&&◌, not}
use mathlib.Core.List.{List, [], ◌∷◌, ◌++◌}
use mathlib.Core.Logic.{⊎_elim}
use native.Mathlib.Omega.{arith}
use native.Mathlib.Nat.{div-zero, div-eq_of_lt, div-mul-le_self, div-eq_of_lt-le, add-div_right, add-mul}
use Rattle.std.specs.Int.{div_ceil}
use Rattle.std.proofs.lemmas.Grind.{div_ceil_times}
use lib.Dec.{eqb}
use lib.ListN.{length, take, drop}
use lib.Seq.{sets, sets-eq, take-append_seam}
use borrow.Author.Tests.{lt-ltb, le-ltb, eq-eqb, ne_eqb}
use Rattle.fields.specs.Answer.{Answer, accepted, told}
use Rattle.fields.proofs.Judging.{told_is_refused, refused_then, accepted_then, told_leaves, sets_leaves}
use Rattle.header.specs.declared.PduHeader.{PduHeader}
use Rattle.ranges.specs.Pairs.{twos}
use Rattle.ranges.proofs.Tests.{eq?}
use Rattle.plan.specs.Missing.{missing_ranges}
use Rattle.plan.specs.Plans.{PlannedNak, Plan, pair_numbers, nak_numbers}
use Rattle.plan.specs.Checking.{judging_plan}
use Rattle.plan.specs.declared.planner.Planned.{Planned}
use Rattle.plan.specs.Planning.{naks_for, end_of, dealt, plan_of, plan_with, planning, counted, requests_after, naks_after}

-- ---- how many NAKs

pub naks_none : (ranges most : ℕ) → ranges ≡ 0 → 0 ≡ naks_for ranges most
naks_none ranges most e =
    sym
    (⊎_elim (λ z. ap (λ (x : ℕ). (ranges + most - 1) / x) z ∙ div-zero (ranges + most - 1))
    (λ z. div-eq_of_lt (let l : ranges + most - 1 < most = omega (arith, z) in l)) (eq? most 0))

pub naks_some : (ranges most : ℕ) → (ranges ≡ 0 → ⊥) → 0 < most → (ranges - 1) / most + 1 ≡ naks_for ranges most
naks_some ranges most n p =
    let e : ranges + most - 1 ≡ ranges - 1 + most = omega (arith, n) in
    sym (ap (λ (x : ℕ). x / most) e ∙ add-div_right (ranges - 1) p)

pub rounded_up : (ranges most : ℕ) → 0 < most → div_ceil ranges most ≡ naks_for ranges most
rounded_up ranges most p =
    let b = div_ceil_times ranges most p in
    let q : ℕ = ranges / most + min 1 (ranges % most) in
    let low : q * most ≤ ranges + most - 1 = omega (arith, b.1) in
    let high : ranges + most - 1 < (q + 1) * most = omega (arith, b.0, add-mul q 1 most) in
    sym (div-eq_of_lt-le most low high)

-- the requests are enough for all NAKs but the last
pub naks_enough : (ranges most : ℕ) → (0 < ranges → 0 < most) → (naks_for ranges most - 1) * most ≤ ranges
naks_enough ranges most h = ⊎_elim none some (eq? ranges 0)
  where
    none : ranges ≡ 0 → (naks_for ranges most - 1) * most ≤ ranges
    none z =
        let e : naks_for ranges most - 1 ≡ 0 = omega (arith, naks_none ranges most z) in
        let m : (naks_for ranges most - 1) * most ≡ 0 * most = ap (λ (x : ℕ). x * most) e in
        omega arith

    some : (ranges ≡ 0 → ⊥) → (naks_for ranges most - 1) * most ≤ ranges
    some z =
        let p : 0 < most = h (omega (arith, z)) in
        let e : naks_for ranges most - 1 ≡ (ranges - 1) / most = omega (arith, naks_some ranges most z p) in
        let m : (naks_for ranges most - 1) * most ≡ (ranges - 1) / most * most = ap (λ (x : ℕ). x * most) e in
        omega (arith, div-mul-le_self (ranges - 1) most)

pub naks_positive : (ranges most : ℕ) → (0 < ranges → 0 < most) → 1 < naks_for ranges most → 0 < most
naks_positive ranges most h l = ⊎_elim (λ z. absurd (let b : ⊥ = omega (arith, naks_none ranges most z) in b)) (λ z. h (omega (arith, z))) (eq? ranges 0)

pub fits_some : (most ranges : ℕ) → (not (eqb ranges 0) && eqb most 0) ≡ false → 0 < ranges → 0 < most
fits_some most ranges e l =
    ⊎_elim
    (λ z. absurd (let w : true ≡ false = sym (rw (ne_eqb ranges 0 (λ y. let b : ⊥ = omega arith in b), eq-eqb most 0 z)) ∙ e in let q : ◌≡◌ {A = ℕ} 0 1 = cc in let b : ⊥ = omega arith in b))
    (λ z. omega (arith, z)) (eq? most 0)

-- ---- what they are

pub dealt_count : (n most left at end : ℕ) (ps : List (ℕ × ℕ)) → length (dealt n most left at end ps) ≡ n
unfolding dealt
dealt_count zero most left at end ps = refl
dealt_count (suc zero) most left at end ps = refl
dealt_count (suc (suc n)) most left at end ps = ap suc (dealt_count (suc n) most (left - most) (end_of most ps) end (drop most ps))

-- ---- numbers

pub pair_count : (ps : List (ℕ × ℕ)) → length (pair_numbers ps) ≡ 2 * length ps
pair_count [] = refl
pair_count (p ∷ ps) = let e = pair_count ps in omega arith

pub nak_count : (ns : List PlannedNak) → length (nak_numbers ns) ≡ 3 * length ns
nak_count [] = refl
nak_count (n ∷ ns) = let e = nak_count ns in omega arith

pub twos_front : (ps : List (ℕ × ℕ)) (s : List ℕ) → twos (pair_numbers ps ++ s) ≡ ps ++ twos s
twos_front [] s = refl
twos_front (p ∷ ps) s = ap (λ (x : List (ℕ × ℕ)). p ∷ x) (twos_front ps s)

take_all : (n : ℕ) (ps qs : List (ℕ × ℕ)) → n ≡ length ps → take n (ps ++ qs) ≡ ps
take_all n ps qs e = ap (λ (x : ℕ). take x (ps ++ qs)) e ∙ take-append_seam ps qs

-- ---- what is told, and the lent numbers at exit

abbrev told_of : ℕ → ℕ → Answer Planned
told_of r n = accepted (record { requests = r; naks = n })

module _ (s t : List ℕ) where
  abbrev pub Leaves : Answer Plan → Answer Planned → List ℕ → List ℕ → Type 0
  Leaves o a s' t' = record { answered : a ≡ counted o; requested : s' ≡ requests_after o s; dealt : t' ≡ naks_after o t }

  pub leaves_refused : (o : Answer Plan) (ns : List ℕ) → told ns ≡ o → Leaves o (told ns) s t
  leaves_refused o ns e =
      record {
        answered = refused_then o (λ p. accepted (record { requests = length p.requests; naks = length p.naks })) ns e;
        requested = told_leaves ns o (λ p. pair_numbers p.requests) s e;
        dealt = told_leaves ns o (λ p. nak_numbers p.naks) t e;
      }

  pub leaves_made : (o : Answer Plan) (p : Plan) (s' t' : List ℕ) → accepted p ≡ o → length (pair_numbers p.requests) ≤ length s
      → length (nak_numbers p.naks) ≤ length t
      → s' ≡ sets s 0 (pair_numbers p.requests) → t' ≡ sets t 0 (nak_numbers p.naks) → Leaves o (accepted (record { requests = length p.requests; naks = length p.naks })) s' t'
  leaves_made o p s' t' e l m q r =
      record {
        answered = accepted_then o (λ p. accepted (record { requests = length p.requests; naks = length p.naks })) p e;
        requested = q ∙ sets_leaves o (λ p. pair_numbers p.requests) s p e l;
        dealt = r ∙ sets_leaves o (λ p. nak_numbers p.naks) t p e m;
      }

-- ---- the exits

module _ (most start end : ℕ) (rs : List (ℕ × ℕ)) (s t : List ℕ) (n : ℕ) (is : n ≡ length rs) where
  abbrev made : Answer Plan
  made = plan_with most start end rs (length s) (length t)

  pub none_fit : (not (eqb n 0) && eqb most 0) ≡ true → Leaves s t made (told (24 ∷ [])) s t
  unfolding plan_with
  none_fit e = leaves_refused s t made (24 ∷ []) (rw (told_is_refused 24 _ refl, ← is, e))

  module _ (f : (not (eqb n 0) && eqb most 0) ≡ false) where
    pub few_requests : length s / 2 < n → Leaves s t made (told (20 ∷ [])) s t
    unfolding plan_with
    few_requests l = leaves_refused s t made (20 ∷ []) (rw (told_is_refused 20 _ refl, ← is, f, lt-ltb _ _ l))

    module _ (g : n ≤ length s / 2) (p : ℕ) (parts : p ≡ naks_for n most) where
      pub few_naks : length t / 3 < p → Leaves s t made (told (20 ∷ [])) s t
      unfolding plan_with
      few_naks l = leaves_refused s t made (20 ∷ []) (rw (told_is_refused 20 _ refl, ← is, f, le-ltb _ _ g, ← parts, lt-ltb _ _ l))

      module _ (k : p ≤ length t / 3) where
        plan_made : accepted (plan_of most start end rs) ≡ made
        unfolding plan_with
        plan_made = rw (← is, f, le-ltb _ _ g, ← parts, le-ltb _ _ k)

        parts_is : p ≡ naks_for (length rs) most
        parts_is = parts ∙ ap (λ (x : ℕ). naks_for x most) is

        requests_fit : length (pair_numbers rs) ≤ length s
        requests_fit = omega (arith, pair_count rs)

        abbrev parted : List PlannedNak
        parted = dealt (naks_for (length rs) most) most (length rs) start end rs

        parted_count : length parted ≡ naks_for (length rs) most
        parted_count = dealt_count (naks_for (length rs) most) most (length rs) start end rs

        -- the requests that were just stored
        stored : (s' : List ℕ) → s' ≡ sets s 0 (pair_numbers rs) → take n (twos s') ≡ rs
        stored s' q =
            let z : 0 + length (pair_numbers rs) ≤ length s = omega (arith, requests_fit) in
            let front : s' ≡ pair_numbers rs ++ drop (0 + length (pair_numbers rs)) s = q ∙ sets-eq (pair_numbers rs) s 0 z in
            ap (λ (x : List ℕ). take n (twos x)) front
            ∙ ap (take n) (twos_front rs (drop (0 + length (pair_numbers rs)) s))
            ∙ take_all n rs (twos (drop (0 + length (pair_numbers rs)) s)) is

        pub all_stored : (s' t' : List ℕ) (asked : List (ℕ × ℕ)) → s' ≡ sets s 0 (pair_numbers rs) → asked ≡ take n (twos s')
            → t' ≡ sets t 0 (nak_numbers (dealt p most (length asked) start end asked))
            → Leaves s t made (accepted (record { requests = n; naks = p })) s' t'
        unfolding plan_of
        all_stored s' t' asked q a r =
            let same : dealt p most (length asked) start end asked ≡ parted = ap₂ (λ (x : ℕ) (y : List (ℕ × ℕ)). dealt x most (length y) start end y) parts_is (a ∙ stored s' q) in
            let m = leaves_made s t made (plan_of most start end rs) s' t' plan_made requests_fit
            (omega (arith, nak_count parted, parted_count, parts_is)) q (r ∙ ap (λ (x : List PlannedNak). sets t 0 (nak_numbers x)) same) in
            record { answered = ap₂ told_of is (parts_is ∙ sym parted_count) ∙ m.answered; requested = m.requested; dealt = m.dealt }

-- ---- above the judgement

module _ (h : PduHeader) (size : ℕ) (received : List ℕ) (start end : ℕ) (s t : List ℕ) where
  abbrev with_most : ℕ → Answer Plan
  with_most most = plan_with most start end (missing_ranges (twos received) start end) (length s) (length t)

  pub plan_refused : (ns : List ℕ) → told ns ≡ judging_plan h size received start end (length s)
      → Leaves s t (planning h size received start end (length s) (length t)) (told ns) s t
  unfolding planning
  plan_refused ns e =
      leaves_refused s t (planning h size received start end (length s) (length t)) ns
      (refused_then (judging_plan h size received start end (length s)) with_most ns e)

  pub plan_judged : (most : ℕ) (a : Answer Planned) (s' t' : List ℕ) → accepted most ≡ judging_plan h size received start end (length s)
      → Leaves s t (plan_with most start end (missing_ranges (twos received) start end) (length s) (length t)) a s' t'
      → Leaves s t (planning h size received start end (length s) (length t)) a s' t'
  unfolding planning
  plan_judged most a s' t' e w = rw (sym (accepted_then (judging_plan h size received start end (length s)) with_most most e)) w
