-- The planner's NAKs: each fits, each request lies in its NAK's scope, and the scopes join up.
-- Assumes nothing.
use Prim.Native.Nat.{ℕ, zero, suc, ◌+◌, ◌-◌, ◌*◌, ◌/◌, ◌≤◌, ◌<◌}
use mathlib.Core.Path.{◌≡◌, refl, sym, ap, ◌∙◌}
use mathlib.Core.Bool.{true, ◌&&◌}
use mathlib.Core.List.{List, [], ◌∷◌}
use mathlib.Core.Logic.{⊎_elim}
use native.Mathlib.Omega.{arith}
use native.Mathlib.Nat.{suc-mul, lt-div-mul-add}
use lib.Dec.{leb, eqb}
use lib.ListN.{length, take, drop, length-drop}
use lib.Seq.{take-length}
use borrow.Author.Tests.{lt-ltb, le-ltb, le-leb, eq-eqb}
use Rattle.std.specs.Prelude.{if◌then◌else◌}
use Rattle.ranges.specs.Pairs.{Rising, ApartBehind, Apart}
use Rattle.ranges.proofs.Tests.{eq?, lt?}
use Rattle.plan.specs.Plans.{PlannedNak, each_fits, all_within, each_within, join_from, scopes_join}
use Rattle.plan.specs.Planning.{naks_for, first_end, end_of, dealt}
use Rattle.plan.specs.Gaps.{front, gaps}
use Rattle.plan.proofs.Apart.{and_true}
use Rattle.plan.proofs.GapLaws.{gaps_none, gaps_some}
use Rattle.plan.proofs.Exact.{lesser, greater, behind_apart, gaps_behind}
use Rattle.plan.proofs.Storing.{enough_more, dealt_over}
use Rattle.plan.proofs.Planning.{naks_some, naks_enough, naks_positive}

-- each ends at or before `end`
abbrev pub Below : ℕ → List (ℕ × ℕ) → Type 0
Below end [] = Unit {0}
Below end (p ∷ ps) = (p.1 ≤ end) × Below end ps

-- ---- gaps rise, within the scope

behind_rises : (e : ℕ) (ps : List (ℕ × ℕ)) → ApartBehind e ps → Rising e ps
behind_rises e [] h = tt
behind_rises e (p ∷ ps) h = (omega (arith, h.0), h.1, behind_rises p.1 ps h.2)

rises_from : (e e' : ℕ) (ps : List (ℕ × ℕ)) → e ≤ e' → Rising e' ps → Rising e ps
rises_from e e' [] l h = tt
rises_from e e' (p ∷ ps) l h = (omega (arith, h.0), h.1, h.2)

front_rises : (from to : ℕ) (rs : List (ℕ × ℕ)) → (from < to → Rising to rs) → Rising from rs → Rising from (front from to rs)
front_rises from to rs some none = ⊎_elim (λ l. rw (lt-ltb from to l) (omega arith, l, some l)) (λ l. rw (le-ltb from to l) none) (lt? from to)

pub gaps_rise : (at stop : ℕ) (ps : List (ℕ × ℕ)) → Apart ps → Rising at (gaps at stop ps)
gaps_rise at stop [] h = rw (gaps_none at stop) (front_rises at stop [] (λ k. tt) tt)
gaps_rise at stop (p ∷ ps) h =
    let m = if leb stop p.0 then stop else p.0 in
    let n = if leb at p.1 then p.1 else at in
    rw (gaps_some at stop p ps)
    (front_rises at m (gaps n stop ps)
    (λ k. behind_rises m (gaps n stop ps) (gaps_behind m n stop ps (let u = lesser stop p.0 in let v = greater at p.1 in omega (arith, u.second, v.second, h.0)) (behind_apart p.1 ps h.1)))
    (rises_from at n (gaps n stop ps) (greater at p.1).first (gaps_rise n stop ps (behind_apart p.1 ps h.1))))

front_below : (from to stop : ℕ) (rs : List (ℕ × ℕ)) → to ≤ stop → Below stop rs → Below stop (front from to rs)
front_below from to stop rs l h = ⊎_elim (λ k. rw (lt-ltb from to k) (l, h)) (λ k. rw (le-ltb from to k) h) (lt? from to)

pub gaps_below : (at stop : ℕ) (ps : List (ℕ × ℕ)) → Below stop (gaps at stop ps)
gaps_below at stop [] = rw (gaps_none at stop) (front_below at stop stop [] (omega arith) tt)
gaps_below at stop (p ∷ ps) =
    rw (gaps_some at stop p ps)
    (front_below at (if leb stop p.0 then stop else p.0) stop (gaps (if leb at p.1 then p.1 else at) stop ps) (lesser stop p.0).first
    (gaps_below (if leb at p.1 then p.1 else at) stop ps))

-- ---- rising requests, of which the first k + 1 are taken

rises_drop : (k e : ℕ) (ps : List (ℕ × ℕ)) → Rising e ps → k < length ps → Rising (first_end (drop k ps)) (drop (suc k) ps)
rises_drop k e [] h l = absurd (let b : ⊥ = omega arith in b)
rises_drop zero e (p ∷ ps) h l = h.2
rises_drop (suc k) e (p ∷ ps) h l = rises_drop k p.1 ps h.2 (omega arith)

end_least : (k e : ℕ) (ps : List (ℕ × ℕ)) → Rising e ps → k < length ps → e ≤ first_end (drop k ps)
end_least k e [] h l = absurd (let b : ⊥ = omega arith in b)
end_least zero e (p ∷ ps) h l = omega (arith, h.0, h.1)
end_least (suc k) e (p ∷ ps) h l = omega (arith, h.0, h.1, end_least k p.1 ps h.2 (omega arith))

end_below : (k end : ℕ) (ps : List (ℕ × ℕ)) → Below end ps → k < length ps → first_end (drop k ps) ≤ end
end_below k end [] h l = absurd (let b : ⊥ = omega arith in b)
end_below zero end (p ∷ ps) h l = h.0
end_below (suc k) end (p ∷ ps) h l = end_below k end ps h.1 (omega arith)

below_drop : (k end : ℕ) (ps : List (ℕ × ℕ)) → Below end ps → Below end (drop k ps)
below_drop zero end ps h = h
below_drop (suc k) end [] h = tt
below_drop (suc k) end (p ∷ ps) h = below_drop k end ps h.1

within_front : (k low e : ℕ) (ps : List (ℕ × ℕ)) → Rising e ps → low ≤ e → k < length ps → all_within low (first_end (drop k ps)) (take (suc k) ps) ≡ true
within_front k low e [] h m l = absurd (let b : ⊥ = omega arith in b)
within_front zero low e (p ∷ ps) h m l =
    and_true _ true (and_true (leb low p.0) (leb p.1 p.1) (le-leb low p.0 (omega (arith, h.0))) (le-leb p.1 p.1 (omega arith))) refl
within_front (suc k) low e (p ∷ ps) h m l =
    and_true (leb low p.0 && leb p.1 (first_end (drop k ps))) (all_within low (first_end (drop k ps)) (take (suc k) ps))
    (and_true (leb low p.0) (leb p.1 (first_end (drop k ps))) (le-leb low p.0 (omega (arith, h.0)))
    (le-leb _ _ (end_least k p.1 ps h.2 (omega arith))))
    (within_front k low p.1 ps h.2 (omega (arith, h.0, h.1)) (omega arith))

within_all : (low e end : ℕ) (ps : List (ℕ × ℕ)) → Rising e ps → low ≤ e → Below end ps → all_within low end ps ≡ true
within_all low e end [] h m b = refl
within_all low e end (p ∷ ps) h m b =
    and_true (leb low p.0 && leb p.1 end) (all_within low end ps)
    (and_true (leb low p.0) (leb p.1 end) (le-leb low p.0 (omega (arith, h.0))) (le-leb _ _ b.0))
    (within_all low p.1 end ps h.2 (omega (arith, h.0, h.1)) b.1)

-- ---- what holds where n NAKs are dealt

pub record Ready (n most left at end : ℕ) (ps : List (ℕ × ℕ)) : Type 0 where
  pub count : length ps ≡ left
  pub enough : (n - 1) * most ≤ left
  pub upto : left ≤ n * most
  pub positive : 1 < n → 0 < most
  pub rises : Rising at ps
  pub below : Below end ps
  pub forwards : at ≤ end

module _ (n most left at end : ℕ) (ps : List (ℕ × ℕ)) (r : Ready (suc (suc n)) most left at end ps) where
  some : 0 < most
  some = r.positive (omega arith)

  more : (most ≤ left) × ((suc (suc n) - 1 - 1) * most ≤ left - most)
  more = enough_more (suc (suc n)) most left (omega arith) r.enough

  inside : most - 1 < length ps
  inside = omega (arith, some, more.0, r.count)

  one_more_lem : most ≡ suc (most - 1)
  one_more_lem = omega (arith, some)

  ready_next : Ready (suc n) most (left - most) (end_of most ps) end (drop most ps)
  ready_next = record {
    count = length-drop most ps ∙ ap (λ (x : ℕ). x - most) r.count;
    enough = (let e : suc (suc n) - 1 - 1 ≡ suc n - 1 = omega arith in rw e at more.1);
    upto = (let u = r.upto in let e = suc-mul (suc n) most in omega arith);
    positive = λ l. some;
    rises = rw (sym one_more_lem) at (rises_drop (most - 1) at ps r.rises inside);
    below = below_drop most end ps r.below;
    forwards = end_below (most - 1) end ps r.below inside;
  }

-- ---- and so of the NAKs

pub dealt_fits : (n most left at end : ℕ) (ps : List (ℕ × ℕ)) → Ready n most left at end ps → each_fits most (dealt n most left at end ps) ≡ true
unfolding dealt
dealt_fits zero most left at end ps r = refl
dealt_fits (suc zero) most left at end ps r =
    and_true (leb left most) true (le-leb left most (let u = r.upto in let e = suc-mul zero most in omega arith)) refl
dealt_fits (suc (suc n)) most left at end ps r =
    and_true (leb most most) (each_fits most (dealt (suc n) most (left - most) (end_of most ps) end (drop most ps))) (le-leb most most (omega arith))
    (dealt_fits (suc n) most (left - most) (end_of most ps) end (drop most ps) (ready_next n most left at end ps r))

pub dealt_within : (n most left at end : ℕ) (ps : List (ℕ × ℕ)) → Ready n most left at end ps → each_within (dealt n most left at end ps) ps ≡ true
unfolding dealt
dealt_within zero most left at end ps r = eq-eqb (length ps) 0 (let u = r.upto in let k = r.count in omega arith)
dealt_within (suc zero) most left at end ps r =
    let e = r.count in
    and_true (leb left (length ps) && all_within at end (take left ps)) (eqb (length (drop left ps)) 0)
    (and_true (leb left (length ps)) (all_within at end (take left ps)) (le-leb left (length ps) (omega arith))
    (ap (λ (k : ℕ). all_within at end (take k ps)) (sym e) ∙ ap (all_within at end) (take-length ps) ∙ within_all at at end ps r.rises (omega arith) r.below))
    (eq-eqb (length (drop left ps)) 0 (omega (arith, length-drop left ps)))
dealt_within (suc (suc n)) most left at end ps r =
    and_true (leb most (length ps) && all_within at (end_of most ps) (take most ps))
    (each_within (dealt (suc n) most (left - most) (end_of most ps) end (drop most ps)) (drop most ps))
    (and_true (leb most (length ps)) (all_within at (end_of most ps) (take most ps))
    (le-leb most (length ps) (omega (arith, (more n most left at end ps r).0, r.count)))
    (ap (λ (k : ℕ). all_within at (end_of most ps) (take k ps)) (one_more_lem n most left at end ps r)
    ∙ within_front (most - 1) at at ps r.rises (omega arith) (inside n most left at end ps r)))
    (dealt_within (suc n) most (left - most) (end_of most ps) end (drop most ps) (ready_next n most left at end ps r))

dealt_join : (n most left at end : ℕ) (ps : List (ℕ × ℕ)) → Ready (suc n) most left at end ps → join_from at end (dealt (suc n) most left at end ps) ≡ true
unfolding dealt
dealt_join zero most left at end ps r =
    and_true (eqb at at && leb at end) (eqb end end) (and_true (eqb at at) (leb at end) (eq-eqb at at refl) (le-leb at end r.forwards)) (eq-eqb end end refl)
dealt_join (suc n) most left at end ps r =
    and_true (eqb at at && leb at (end_of most ps)) (join_from (end_of most ps) end (dealt (suc n) most (left - most) (end_of most ps) end (drop most ps)))
    (and_true (eqb at at) (leb at (end_of most ps)) (eq-eqb at at refl)
    (le-leb at (end_of most ps) (end_least (most - 1) at ps r.rises (inside n most left at end ps r))))
    (dealt_join n most (left - most) (end_of most ps) end (drop most ps) (ready_next n most left at end ps r))

join_some : (at end : ℕ) (ns : List PlannedNak) → join_from at end ns ≡ true → scopes_join at end ns ≡ true
join_some at end [] e = refl
join_some at end (n ∷ ns) e = e

pub dealt_joins : (n most left at end : ℕ) (ps : List (ℕ × ℕ)) → Ready n most left at end ps → scopes_join at end (dealt n most left at end ps) ≡ true
dealt_joins zero most left at end ps r = none
  where
    none : scopes_join at end (dealt zero most left at end ps) ≡ true
    none = ap (scopes_join at end) (dealt_over zero most left at end ps refl)
dealt_joins (suc n) most left at end ps r = join_some at end (dealt (suc n) most left at end ps) (dealt_join n most left at end ps r)

-- ---- the planner's count is right

naks_upto : (ranges most : ℕ) → (0 < ranges → 0 < most) → ranges ≤ naks_for ranges most * most
naks_upto ranges most h = ⊎_elim (λ z. omega arith) some_ranges (eq? ranges 0)
  where
    some_ranges : (ranges ≡ 0 → ⊥) → ranges ≤ naks_for ranges most * most
    some_ranges z =
        let p : 0 < most = h (omega (arith, z)) in
        let e : naks_for ranges most ≡ suc ((ranges - 1) / most) = omega (arith, naks_some ranges most z p) in
        let m : naks_for ranges most * most ≡ (ranges - 1) / most * most + most = ap (λ (x : ℕ). x * most) e ∙ suc-mul ((ranges - 1) / most) most in
        omega (arith, z, lt-div-mul-add {a = ranges - 1} p)

pub ready_gaps : (most start end : ℕ) (ps rs : List (ℕ × ℕ)) → Apart ps → start ≤ end → rs ≡ gaps start end ps → (0 < length rs → 0 < most)
    → Ready (naks_for (length rs) most) most (length rs) start end rs
ready_gaps most start end ps rs h l e f = record {
  count = refl;
  enough = naks_enough (length rs) most f;
  upto = naks_upto (length rs) most f;
  positive = naks_positive (length rs) most f;
  rises = rw e (gaps_rise start end ps h);
  below = rw e (gaps_below start end ps);
  forwards = l;
}
