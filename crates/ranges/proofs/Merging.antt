-- Two sides walked together: what holds at each place where one of them changes, at the start, from one such place to the next, and at the end.
-- Assumes nothing.
use Prim.Native.Nat.{ℕ, ◌+◌, ◌-◌, ◌≤◌, ◌<◌}
use mathlib.Core.Path.{◌≡◌, refl, sym, ap, ap₂, ◌∙◌}
use mathlib.Core.Bool.{Bool}
use mathlib.Core.List.{List, []}
use native.Mathlib.Omega.{arith}
use lib.ListN.{length}
use Rattle.std.specs.Prelude.{min}
use Rattle.ranges.specs.declared.merge.Rule.{Rule}
use Rattle.ranges.specs.declared.tape.Open.{Open}
use Rattle.ranges.specs.Runs.{Run, in_front, runs}
use Rattle.ranges.specs.Pairs.{Rising}
use Rattle.ranges.specs.Merging.{largest, label_of, labelling, merged}
use Rattle.ranges.specs.Within.{edge, begun, passed, laid, closing, closed_into, turned_open, turned_into}
use Rattle.ranges.proofs.Runs.{in_front_none, runs_none, runs_apart}
use Rattle.ranges.proofs.Sides.{Ahead, ahead_start, edge_ahead, ahead_passed, both_stretch}
use Rattle.ranges.proofs.Laying.{closing_none, length_turned_into, turn_laid, turn_count, turn_most, end_laid, end_count}

-- at a place: the numbers keep their length; no more ranges than bytes; both sides lie ahead; storing what is left stores all, and so many are left
pub record Walk (rule : Rule) (labelled : Bool) (ps qs : List (ℕ × ℕ)) (s₀ s : List ℕ) (xs ys : List (ℕ × ℕ)) (o : Open) (at : ℕ) : Type 0 where
  pub inside : at ≤ largest
  pub kept : length s ≡ length s₀
  pub few : o.count + closing o.label ≤ at
  pub first : Ahead ps at xs
  pub second : Ahead qs at ys
  pub stores : laid labelled s o.count (in_front o.from at o.label (runs (labelling rule ps qs) at (largest - at))) ≡ laid labelled s₀ 0 (merged rule ps qs)
  pub counts : o.count + length (in_front o.from at o.label (runs (labelling rule ps qs) at (largest - at))) ≡ length (merged rule ps qs)

module _ (rule : Rule) (labelled : Bool) (ps qs : List (ℕ × ℕ)) (s₀ : List ℕ) where
  pub walk_start : (xs ys : List (ℕ × ℕ)) → Rising 0 ps → Rising 0 qs → xs ≡ ps → ys ≡ qs
      → Walk rule labelled ps qs s₀ s₀ xs ys (record { from = 0; label = 0; count = 0 }) 0
  unfolding merged
  walk_start xs ys h₁ h₂ p q =
      let z = in_front_none 0 0 0 (runs (labelling rule ps qs) 0 largest) refl in
      record {
        inside = omega arith;
        kept = refl;
        few = omega (arith, closing_none 0 refl);
        first = rw p (ahead_start ps h₁);
        second = rw q (ahead_start qs h₂);
        stores = ap (laid labelled s₀ 0) z;
        counts =
            ap (λ (x : List Run). 0 + length x) z
            ∙ (let e : 0 + length (runs (labelling rule ps qs) 0 largest) ≡ length (runs (labelling rule ps qs) 0 largest) = omega arith in e);
      }

  module _ (s : List ℕ) (xs ys : List (ℕ × ℕ)) (o : Open) (at : ℕ) (w : Walk rule labelled ps qs s₀ s xs ys o at) where
    module _ (inner : at < largest) (x₁ x₂ to : ℕ) (d₁ : x₁ ≡ edge at xs) (b₁ : x₁ ≤ largest) (d₂ : x₂ ≡ edge at ys) (t : to ≡ min x₁ x₂) where
      -- the next place lies ahead
      pub to_ahead : at < to
      to_ahead = omega (arith, edge_ahead ps at xs inner w.first, edge_ahead qs at ys inner w.second)

      pub to_inside : to ≤ largest
      to_inside = omega arith

      pub walk_turn : (l : ℕ) (c₁ c₂ : Bool) (o' : Open) (s' : List ℕ) (xs' ys' : List (ℕ × ℕ))
          → l ≡ label_of rule c₁ c₂ → c₁ ≡ begun at xs → c₂ ≡ begun at ys → o' ≡ turned_open o at l → s' ≡ turned_into labelled s o at l
          → xs' ≡ passed to xs → ys' ≡ passed to ys
          → Walk rule labelled ps qs s₀ s' xs' ys' o' to
      walk_turn l c₁ c₂ o' s' xs' ys' el g₁ g₂ eo es p q =
          let k₁ : to ≤ edge at xs = omega arith in
          let k₂ : to ≤ edge at ys = omega arith in
          let rest = runs (labelling rule ps qs) to (largest - to) in
          let apart = runs_apart (labelling rule ps qs) to (largest - to) in
          let stretch = both_stretch rule ps qs at xs ys to l w.first w.second k₁ k₂ to_ahead to_inside
          (el ∙ ap₂ (label_of rule) g₁ g₂) in
          record {
            inside = to_inside;
            kept = ap length es ∙ length_turned_into labelled s o at l ∙ w.kept;
            few = turn_most labelled s o at l to rest to_ahead apart o' s' eo es w.few;
            first = rw p (ahead_passed ps at xs to w.first to_ahead k₁);
            second = rw q (ahead_passed qs at ys to w.second to_ahead k₂);
            stores =
                turn_laid labelled s o at l to rest to_ahead apart o' s' eo es
                ∙ ap (λ (x : List Run). laid labelled s o.count (in_front o.from at o.label x)) (sym stretch)
                ∙ w.stores;
            counts =
                turn_count labelled s o at l to rest to_ahead apart o' s' eo es
                ∙ ap (λ (x : List Run). o.count + length (in_front o.from at o.label x)) (sym stretch)
                ∙ w.counts;
          }

    -- at the end of all offsets nothing is left
    pub walk_end : largest ≤ at → (n : ℕ) (s' : List ℕ) → n ≡ o.count + closing o.label → s' ≡ closed_into labelled s o at
        → (n ≡ length (merged rule ps qs)) × (s' ≡ laid labelled s₀ 0 (merged rule ps qs))
    walk_end h n s' en es =
        let z : largest - at ≡ 0 = omega arith in
        let none : runs (labelling rule ps qs) at (largest - at) ≡ [] = ap (runs (labelling rule ps qs) at) z ∙ runs_none (labelling rule ps qs) at in (
          en ∙ sym (end_count labelled s o at) ∙ ap (λ (x : List Run). o.count + length (in_front o.from at o.label x)) (sym none) ∙ w.counts,
          es ∙ sym (end_laid labelled s o at) ∙ ap (λ (x : List Run). laid labelled s o.count (in_front o.from at o.label x)) (sym none) ∙ w.stores,
        )
