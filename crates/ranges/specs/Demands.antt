-- What is proved of comparing two NAKs, beside the promise of `differ`.
use Rattle.std.specs.Prelude.{ℕ, ◌*◌, ◌≤◌, ◌≡◌, Bool, true, false, not, ◌&&◌, ◌||◌, List, [], ◌∷◌, ◌++◌, leb, ltb, eqb, length, drop, Ok, Err}
use Rattle.fields.specs.declared.refusal.Refusal.{Refusal}
use Rattle.fields.specs.Answer.{accepted, answer_of}
use Rattle.fields.specs.BigEndian.{Bytes}
use Rattle.fields.specs.Staged.{run}
use Rattle.nak.specs.declared.Nak.{Nak}
use Rattle.nak.specs.Reading.{reading_nak}
use Rattle.ranges.specs.declared.differ.Differences.{Differences}
use Rattle.ranges.specs.Runs.{Run, range, ApartFrom}
use Rattle.ranges.specs.Pairs.{asks}
use Rattle.ranges.specs.Laying.{flat}
use Rattle.ranges.specs.Order.{metadata}
use Rattle.ranges.specs.Differing.{requests_in, differing, differ_memory}

-- ---- the definition of the ranges, believed

-- whether a byte lies in a range of that side
abbrev pub covered : ℕ → List Run → ℕ → Bool
covered side [] b = false
covered side (range from to l ∷ rs) b = leb from b && ltb b to && eqb l side || covered side rs b

-- 'side 1 or 2'
abbrev pub Sided : List Run → Type 0
Sided [] = Unit {0}
Sided (range from to l ∷ rs) = (1 ≤ l) × (l ≤ 2) × Sided rs

-- the ranges rise, none is empty, and two that touch have different sides; a byte lies in a range of side 1 exactly when the first asks for it and the second does not, and likewise of side 2
pub record DifferIn (ps qs : List (ℕ × ℕ)) (rs : List Run) : Type 0 where
  pub longest : ApartFrom 0 0 rs
  pub sided : Sided rs
  pub first : (b : ℕ) → covered 1 rs b ≡ (asks ps b && not (asks qs b))
  pub second : (b : ℕ) → covered 2 rs b ≡ (asks qs b && not (asks ps b))

-- and there is no other such list
abbrev pub OneList : Type 0
OneList = (ps qs : List (ℕ × ℕ)) (rs ss : List Run) → DifferIn ps qs rs → DifferIn ps qs ss → rs ≡ ss

-- ---- the code's own answers

-- two NAKs were read; which of them ask for metadata; so many ranges stand in front of the lent numbers, three for each; and they are those in which the two differ
pub record Told (s t lent : List ℕ) (d : Differences) : Type 0 where
  pub nak₁ : Nak
  pub nak₂ : Nak
  pub read₁ : run reading_nak s ≡ accepted nak₁
  pub read₂ : run reading_nak t ≡ accepted nak₂
  pub metadata₁ : d.first ≡ metadata (requests_in nak₁ s)
  pub metadata₂ : d.second ≡ metadata (requests_in nak₂ t)
  pub ranges : List Run
  pub count : d.ranges ≡ length ranges
  pub stored : differ_memory s t lent ≡ flat true ranges ++ drop (3 * length ranges) lent
  pub differ : DifferIn (requests_in nak₁ s) (requests_in nak₂ t) ranges

abbrev pub FoundTells : Type 0
FoundTells = (s t lent : List ℕ) (d : Differences) → Bytes s → Bytes t → answer_of (Ok d) ≡ differing s t (length lent) → Told s t lent d

-- a refused call changes none of the lent numbers
abbrev pub RefusedLeaves : Type 0
RefusedLeaves = (s t lent : List ℕ) (r : Refusal) → answer_of (Err r) ≡ differing s t (length lent) → differ_memory s t lent ≡ lent
