-- The ranges in which two lists of pairs differ: they give each byte its side, so a byte lies in one exactly when only that side asks for it; and sides tell labels apart, so nothing else does.
-- Assumes nothing.
use Prim.Native.Nat.{ℕ, zero, suc, ◌+◌, ◌*◌, ◌/◌, ◌≤◌, ◌<◌}
use mathlib.Core.Path.{◌≡◌, refl, sym, ap, ap₂, ◌∙◌}
use mathlib.Core.Bool.{Bool, true, false, not, ◌&&◌, ◌||◌, and-false}
use mathlib.Core.List.{List, [], ◌∷◌}
use mathlib.Core.Logic.{⊎_elim}
use native.Mathlib.Omega.{arith}
use lib.Dec.{leb, ltb, eqb, lit≤}
use lib.ListN.{length}
use borrow.Author.Tests.{le-leb, lt-leb, lt-ltb, le-ltb, eq-eqb, ne_eqb, eqb-true, eqb-false}
use Rattle.std.specs.Prelude.{if◌then◌else◌}
use Rattle.fields.specs.BigEndian.{Bytes, number_at}
use Rattle.fields.proofs.BigEndian.{number_lt}
use Rattle.header.specs.declared.flags.LargeFileFlag.{LargeFileFlag}
use Rattle.header.specs.declared.flags.LargeFileFlag.TheVariants.{Normal, Large}
use Rattle.header.specs.Size.{size_width}
use Rattle.nak.specs.Nak.{pair_size}
use Rattle.nak.specs.Requests.{pairs_from, pairs_of}
use Rattle.nak.proofs.Walking.{pairs_are}
use Rattle.ranges.specs.declared.merge.Rule.TheVariants.{Differ}
use Rattle.ranges.specs.Runs.{Run, range, ApartFrom, label_in}
use Rattle.ranges.specs.Pairs.{asks}
use Rattle.ranges.specs.Merging.{largest, label_of, labelling, merged}
use Rattle.ranges.specs.Order.{others}
use Rattle.ranges.specs.Differing.{differences}
use Rattle.ranges.specs.Demands.{covered, Sided, DifferIn, OneList}
use Rattle.ranges.proofs.Tests.{eq?, lt?}
use Rattle.ranges.proofs.Runs.{label_here, label_before, label_after, runs_apart, runs_label, runs_beyond, apart_one}

-- ---- ranges of one side, and labels

module _ (side : ℕ) where
  module _ (x y l : ℕ) (rs : List Run) (b : ℕ) where
    covered_before : b < x → covered side (range x y l ∷ rs) b ≡ covered side rs b
    covered_before u = rw (lt-leb x b u)

    covered_here : x ≤ b → b < y → covered side rs b ≡ false → covered side (range x y l ∷ rs) b ≡ eqb l side
    covered_here u v none = rw (le-leb x b u, lt-ltb b y v, none) (or_nothing (eqb l side))
      where
        or_nothing : (c : Bool) → (c || false) ≡ c
        or_nothing true = refl
        or_nothing false = refl

    covered_after : y ≤ b → covered side (range x y l ∷ rs) b ≡ covered side rs b
    covered_after u = rw (le-ltb b y u, and-false)

  covered_below : (e k b : ℕ) (rs : List Run) → ApartFrom e k rs → b < e → covered side rs b ≡ false
  covered_below e k b [] h u = refl
  covered_below e k b (range x y l ∷ rs) h u = covered_before x y l rs b (omega (arith, h.0)) ∙ covered_below y l b rs h.4 (omega (arith, h.0, h.1))

  -- a byte lies in a range of that side exactly when the ranges give it that label
  covered_label : (e k b : ℕ) (rs : List Run) → (side ≡ 0 → ⊥) → ApartFrom e k rs → covered side rs b ≡ eqb (label_in rs b) side
  covered_label e k b [] n h = sym (ne_eqb 0 side (λ z. n (sym z)))
  covered_label e k b (range x y l ∷ rs) n h =
      let more = covered_label y l b rs n h.4 in ⊎_elim (before more) (λ u. ⊎_elim (here u) (after more) (lt? b y)) (lt? b x)
    where
      before : covered side rs b ≡ eqb (label_in rs b) side → b < x → covered side (range x y l ∷ rs) b ≡ eqb (label_in (range x y l ∷ rs) b) side
      before more u = covered_before x y l rs b u ∙ more ∙ ap (λ (z : ℕ). eqb z side) (sym (label_before x y l rs b u))

      here : x ≤ b → b < y → covered side (range x y l ∷ rs) b ≡ eqb (label_in (range x y l ∷ rs) b) side
      here u v = covered_here x y l rs b u v (covered_below y l b rs h.4 v) ∙ ap (λ (z : ℕ). eqb z side) (sym (label_here x y l rs b u v))

      after : covered side rs b ≡ eqb (label_in rs b) side → y ≤ b → covered side (range x y l ∷ rs) b ≡ eqb (label_in (range x y l ∷ rs) b) side
      after more u = covered_after x y l rs b u ∙ more ∙ ap (λ (z : ℕ). eqb z side) (sym (label_after x y l rs b u))

-- labels of at most 2 are sides
sided_from : (e k : ℕ) (rs : List Run) → ApartFrom e k rs → ((b : ℕ) → e ≤ b → label_in rs b ≤ 2) → Sided rs
sided_from e k [] h few = tt
sided_from e k (range x y l ∷ rs) h few =
    let m : l ≤ 2 = rw (label_here x y l rs x (omega arith) h.1) at (few x h.0) in
    let n = h.2 in
    (omega arith, m, sided_from y l rs h.4 (λ b p. rw (label_after x y l rs b p) at (few b (omega (arith, h.0, h.1)))))

sided_label : (rs : List Run) (b : ℕ) → Sided rs → label_in rs b ≤ 2
sided_label [] b h = lit≤ tt
sided_label (range x y l ∷ rs) b h = go (leb x b && ltb b y) (sided_label rs b h.2)
  where
    go : (c : Bool) → label_in rs b ≤ 2 → (if c then l else label_in rs b) ≤ 2
    go true more = h.1
    go false more = more

-- ---- which bytes pairs ask for

-- the metadata pair asks for no byte
pub others_ask : (ps : List (ℕ × ℕ)) (b : ℕ) → asks (others ps) b ≡ asks ps b
others_ask [] b = refl
others_ask (p ∷ ps) b = go (eqb p.0 0) (eqb p.1 0) refl
  where
    go : (c d : Bool) → eqb p.1 0 ≡ d → asks (if c && d then ps else p ∷ ps) b ≡ asks (p ∷ ps) b
    go true true e = sym (rw (le-ltb b p.1 (omega (arith, eqb-true p.1 0 e)), and-false))
    go true false e = refl
    go false d e = refl

-- each end is at most the largest offset
abbrev EndsFit : List (ℕ × ℕ) → Type 0
EndsFit [] = Unit {0}
EndsFit (p ∷ ps) = (p.1 ≤ largest) × EndsFit ps

asks_beyond : (ps : List (ℕ × ℕ)) (b : ℕ) → EndsFit ps → largest ≤ b → asks ps b ≡ false
asks_beyond [] b h k = refl
asks_beyond (p ∷ ps) b h k = rw (le-ltb b p.1 (omega (arith, h.0)), and-false) (asks_beyond ps b h.1 k)

size_fits : (file : LargeFileFlag) (a : List ℕ) (at : ℕ) → Bytes a → number_at a at (size_width file) ≤ largest
size_fits Normal a at h = omega (arith, number_lt a at 4 h)
size_fits Large a at h = omega (arith, number_lt a at 8 h)

from_fit : (file : LargeFileFlag) (a : List ℕ) (at n : ℕ) → Bytes a → EndsFit (pairs_from (size_width file) a at n)
from_fit file a at zero h = tt
from_fit file a at (suc n) h = (size_fits file a (at + size_width file) h, from_fit file a (at + 2 * size_width file) n h)

pub area_fits : (file : LargeFileFlag) (a : List ℕ) → Bytes a → EndsFit (pairs_of file a)
area_fits file a h = rw (pairs_are file a) (from_fit file a 0 (length a / pair_size file) h)

-- ---- the differences

module _ (p q : Bool) where
  first_only : eqb (label_of Differ p q) 1 ≡ (p && not q)
  first_only = go p q
    where
      go : (c d : Bool) → eqb (label_of Differ c d) 1 ≡ (c && not d)
      go true true = refl
      go true false = refl
      go false true = refl
      go false false = refl

  second_only : eqb (label_of Differ p q) 2 ≡ (q && not p)
  second_only = go p q
    where
      go : (c d : Bool) → eqb (label_of Differ c d) 2 ≡ (d && not c)
      go true true = refl
      go true false = refl
      go false true = refl
      go false false = refl

  label_most : label_of Differ p q ≤ 2
  label_most = go p q
    where
      go : (c d : Bool) → label_of Differ c d ≤ 2
      go true true = lit≤ tt
      go true false = lit≤ tt
      go false true = lit≤ tt
      go false false = lit≤ tt

module _ (ps qs : List (ℕ × ℕ)) (fits₁ : EndsFit ps) (fits₂ : EndsFit qs) where
  abbrev label : ℕ → ℕ
  label = labelling Differ (others ps) (others qs)

  label_is : (b : ℕ) → label_in (differences ps qs) b ≡ label_of Differ (asks ps b) (asks qs b)
  unfolding differences merged
  label_is b =
      ⊎_elim (λ u. runs_label label 0 largest b (omega arith) (omega arith) ∙ ap₂ (label_of Differ) (others_ask ps b) (others_ask qs b))
      (λ u. runs_beyond label 0 largest b (omega arith) ∙ sym (ap₂ (label_of Differ) (asks_beyond ps b fits₁ u) (asks_beyond qs b fits₂ u)))
      (lt? b largest)

  differences_apart : ApartFrom 0 0 (differences ps qs)
  unfolding differences merged
  differences_apart = runs_apart label 0 largest

  pub differences_differ : DifferIn ps qs (differences ps qs)
  differences_differ =
      record {
        longest = differences_apart;
        sided = sided_from 0 0 (differences ps qs) differences_apart (λ b _. rw (label_is b) (label_most (asks ps b) (asks qs b)));
        first =
            λ b. covered_label 1 0 0 b (differences ps qs) (λ z. omega arith) differences_apart
            ∙ ap (λ (z : ℕ). eqb z 1) (label_is b)
            ∙ first_only (asks ps b) (asks qs b);
        second =
            λ b. covered_label 2 0 0 b (differences ps qs) (λ z. omega arith) differences_apart
            ∙ ap (λ (z : ℕ). eqb z 2) (label_is b)
            ∙ second_only (asks ps b) (asks qs b);
      }

-- ---- nothing else

-- of at most 2, sides tell labels apart
by_sides : (l m : ℕ) → l ≤ 2 → m ≤ 2 → eqb l 1 ≡ eqb m 1 → eqb l 2 ≡ eqb m 2 → l ≡ m
by_sides l m u v p q = ⊎_elim first (λ n. ⊎_elim second (λ k. neither n k) (eq? l 2)) (eq? l 1)
  where
    first : l ≡ 1 → l ≡ m
    first e = e ∙ sym (eqb-true m 1 (sym p ∙ eq-eqb l 1 e))

    second : l ≡ 2 → l ≡ m
    second e = e ∙ sym (eqb-true m 2 (sym q ∙ eq-eqb l 2 e))

    neither : (l ≡ 1 → ⊥) → (l ≡ 2 → ⊥) → l ≡ m
    neither n k =
        let a = eqb-false m 1 (sym p ∙ ne_eqb l 1 n) in
        let b = eqb-false m 2 (sym q ∙ ne_eqb l 2 k) in
        omega arith

pub one_list : OneList
one_list ps qs rs ss h k =
    apart_one 0 0 0 rs ss h.longest k.longest
    (λ b _.
    by_sides (label_in rs b) (label_in ss b) (sided_label rs b h.sided) (sided_label ss b k.sided)
    (sym (covered_label 1 0 0 b rs (λ z. omega arith) h.longest) ∙ h.first b ∙ sym (k.first b) ∙ covered_label 1 0 0 b ss (λ z. omega arith) k.longest)
    (sym (covered_label 2 0 0 b rs (λ z. omega arith) h.longest) ∙ h.second b ∙ sym (k.second b) ∙ covered_label 2 0 0 b ss (λ z. omega arith) k.longest))
