-- A rising list seen from a place: the pair whose end lies ahead and those behind it ask for the same bytes from there on as the whole list.
-- Up to where a side changes next, it asks for every byte or for none. Assumes nothing.
use Prim.Native.Nat.{ℕ, ◌-◌, ◌≤◌, ◌<◌}
use mathlib.Core.Path.{◌≡◌, refl, sym, ap₂, ◌∙◌}
use mathlib.Core.Bool.{true, false, and-false}
use mathlib.Core.List.{List, [], ◌∷◌}
use mathlib.Core.Logic.{⊎_elim}
use native.Mathlib.Omega.{arith}
use borrow.Author.Tests.{le-leb, lt-leb, lt-ltb, le-ltb, eq-eqb, ne_eqb}
use Rattle.ranges.specs.declared.merge.Rule.{Rule}
use Rattle.ranges.specs.Runs.{in_front, runs}
use Rattle.ranges.specs.Pairs.{asks, Rising}
use Rattle.ranges.specs.Merging.{largest, label_of, labelling}
use Rattle.ranges.specs.Within.{edge, begun, passed}
use Rattle.ranges.proofs.Tests.{eq?, lt?}
use Rattle.ranges.proofs.Runs.{runs_stretch}

-- the first pair's end lies ahead, and those behind it rise
abbrev pub Next : ℕ → List (ℕ × ℕ) → Type 0
Next at [] = Unit {0}
Next at (p ∷ ps) = (p.0 < p.1) × (at < p.1) × Rising p.1 ps

-- the pairs that lie ahead of a place: `all` asks for the same bytes from there on
pub record Ahead (all : List (ℕ × ℕ)) (at : ℕ) (ps : List (ℕ × ℕ)) : Type 0 where
  pub same : (b : ℕ) → at ≤ b → asks all b ≡ asks ps b
  pub next : Next at ps

-- ---- which bytes a list asks for

module _ (p : ℕ × ℕ) (ps : List (ℕ × ℕ)) (b : ℕ) where
  asks_here : p.0 ≤ b → b < p.1 → asks (p ∷ ps) b ≡ true
  asks_here h k = rw (le-leb _ _ h, lt-ltb _ _ k)

  asks_before : b < p.0 → asks (p ∷ ps) b ≡ asks ps b
  asks_before h = rw (lt-leb _ _ h)

  asks_after : p.1 ≤ b → asks (p ∷ ps) b ≡ asks ps b
  asks_after h = rw (le-ltb _ _ h, and-false)

asks_below : (e b : ℕ) (ps : List (ℕ × ℕ)) → Rising e ps → b < e → asks ps b ≡ false
asks_below e b [] h k = refl
asks_below e b (p ∷ ps) h k = asks_before p ps b (omega (arith, h.0)) ∙ asks_below p.1 b ps h.2 (omega (arith, h.0, h.1))

-- ---- where a side is

next_rising : (e : ℕ) (ps : List (ℕ × ℕ)) → Rising e ps → Next e ps
next_rising e [] h = tt
next_rising e (p ∷ ps) h = (h.1, omega (arith, h.0, h.1), h.2)

pub ahead_start : (all : List (ℕ × ℕ)) → Rising 0 all → Ahead all 0 all
ahead_start all h = record { same = λ b k. refl; next = next_rising 0 all h }

module _ (at : ℕ) (p : ℕ × ℕ) (ps : List (ℕ × ℕ)) where
  pub edge_in : p.0 ≤ at → edge at (p ∷ ps) ≡ p.1
  edge_in h = rw (le-leb _ _ h)

  pub edge_out : at < p.0 → edge at (p ∷ ps) ≡ p.0
  edge_out h = rw (lt-leb _ _ h)

  pub passed_end : p.1 ≡ at → passed at (p ∷ ps) ≡ ps
  passed_end e = rw (eq-eqb _ _ e)

  pub passed_not : (p.1 ≡ at → ⊥) → passed at (p ∷ ps) ≡ p ∷ ps
  passed_not e = rw (ne_eqb _ _ e)

module _ (all : List (ℕ × ℕ)) (at : ℕ) where
  -- the next change lies ahead
  pub edge_ahead : (ps : List (ℕ × ℕ)) → at < largest → Ahead all at ps → at < edge at ps
  edge_ahead [] inside h = inside
  edge_ahead (p ∷ ps) inside h = ⊎_elim (λ u. rw (edge_out at p ps u) u) (λ u. rw (edge_in at p ps u) h.next.1) (lt? at p.0)

  edge_most : (p : ℕ × ℕ) (ps : List (ℕ × ℕ)) → Ahead all at (p ∷ ps) → edge at (p ∷ ps) ≤ p.1
  edge_most p ps h = ⊎_elim (λ u. rw (edge_out at p ps u) (omega (arith, h.next.0))) (λ u. rw (edge_in at p ps u) (omega arith)) (lt? at p.0)

  -- up to there it asks for every byte, or for none
  pub stretch_asks : (ps : List (ℕ × ℕ)) (to b : ℕ) → Ahead all at ps → to ≤ edge at ps → at ≤ b → b < to → asks all b ≡ begun at ps
  stretch_asks [] to b h k l m = h.same b l
  stretch_asks (p ∷ ps) to b h k l m =
      h.same b l
      ∙ ⊎_elim
      (λ u.
      let e = edge_out at p ps u in
      asks_before p ps b (omega arith) ∙ asks_below p.1 b ps h.next.2 (omega (arith, h.next.0)) ∙ sym (lt-leb _ _ u))
      (λ u. let e = edge_in at p ps u in asks_here p ps b (omega arith) (omega arith) ∙ sym (le-leb _ _ u))
      (lt? at p.0)

  -- and there the side is ahead again, with the next pair where this one ended
  pub ahead_passed : (ps : List (ℕ × ℕ)) (to : ℕ) → Ahead all at ps → at < to → to ≤ edge at ps → Ahead all to (passed to ps)
  ahead_passed [] to h k l = record { same = λ b u. h.same b (omega arith); next = tt }
  ahead_passed (p ∷ ps) to h k l =
      let m = edge_most p ps h in
      ⊎_elim
      (λ e.
      rw (passed_end to p ps e)
      (record { same = λ b u. h.same b (omega arith) ∙ asks_after p ps b (omega arith); next = rw e at (next_rising p.1 ps h.next.2) }))
      (λ e.
      rw (passed_not to p ps e)
      (record { same = λ b u. h.same b (omega arith); next = (h.next.0, omega (arith, e), h.next.2) }))
      (eq? p.1 to)

-- ---- both sides: a stretch of one label

module _ (rule : Rule) (all₁ all₂ : List (ℕ × ℕ)) (at : ℕ) (ps qs : List (ℕ × ℕ)) where
  pub both_stretch : (to l : ℕ) → Ahead all₁ at ps → Ahead all₂ at qs → to ≤ edge at ps → to ≤ edge at qs → at < to → to ≤ largest
      → l ≡ label_of rule (begun at ps) (begun at qs)
      → runs (labelling rule all₁ all₂) at (largest - at) ≡ in_front at to l (runs (labelling rule all₁ all₂) to (largest - to))
  both_stretch to l h₁ h₂ k₁ k₂ p q e =
      runs_stretch (labelling rule all₁ all₂) l at to largest p q
      (λ b u v. ap₂ (label_of rule) (stretch_asks all₁ at ps to b h₁ k₁ u v) (stretch_asks all₂ at qs to b h₂ k₂ u v) ∙ sym e)
