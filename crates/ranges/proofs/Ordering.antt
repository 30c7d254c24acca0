-- The metadata pair and the order of the others, as the cursor shows them.
-- Assumes nothing.
use Prim.Native.Nat.{ℕ, ◌+◌, ◌≤◌, ◌<◌}
use mathlib.Core.Path.{◌≡◌, refl}
use mathlib.Core.Bool.{Bool, true, false, and-false}
use mathlib.Core.List.{List, [], ◌∷◌}
use mathlib.Core.Logic.{◌⊎◌, ⊎_elim}
use native.Mathlib.Omega.{arith}
use lib.Dec.{leb, ltb, eqb}
use borrow.Author.Tests.{lt-leb, le-ltb, leb-true, ltb-true}
use Rattle.std.specs.Prelude.{◌&&◌, Option, Some, None, if◌then◌else◌}
use Rattle.std.specs.Option.{option_eq}
use Rattle.std.specs.Iterator.{YieldsFirst}
use Rattle.ranges.specs.declared.side.Source.{Source}
use Rattle.ranges.specs.Pairs.{Rising}
use Rattle.ranges.specs.Sources.{pairs_in}
use Rattle.ranges.specs.Order.{metadata, behind_first, others, begin_number, out_of_order, disorder}

-- ---- the order of the others

module _ (i e : ℕ) (ps : List (ℕ × ℕ)) where
  module _ (x y : ℕ) (rest : List (ℕ × ℕ)) (k : ps ≡ (x, y) ∷ rest) where
    pub order_wrong : (x < e) ⊎ ((e ≤ x) × (y ≤ x)) → out_of_order i e ps ≡ i
    order_wrong = ⊎_elim (λ h. rw (k, lt-leb e x h)) (λ h. rw (k, le-ltb x y h.1, and-false))

-- where no pair is out of order, they rise
pub ordered : (i e : ℕ) (ps : List (ℕ × ℕ)) → 0 < i → out_of_order i e ps ≡ 0 → Rising e ps
ordered i e [] h k = tt
ordered i e (p ∷ ps) h k =
    go (leb e p.0) (ltb p.0 p.1) refl refl (λ (c : out_of_order (i + 1) p.1 ps ≡ 0). ordered (i + 1) p.1 ps (omega arith) c)
  where
    go : (c d : Bool) → leb e p.0 ≡ c → ltb p.0 p.1 ≡ d → (out_of_order (i + 1) p.1 ps ≡ 0 → Rising p.1 ps)
        → (e ≤ p.0) × (p.0 < p.1) × Rising p.1 ps
    go true true l m more = (leb-true _ _ l, ltb-true _ _ m, more (rw (l, m) at k))
    go true false l m more = absurd (let z : i ≡ 0 = rw (l, m) at k in let b : ⊥ = omega arith in b)
    go false d l m more = absurd (let z : i ≡ 0 = rw l at k in let b : ⊥ = omega arith in b)

pub disorder_none : (ps : List (ℕ × ℕ)) → disorder ps ≡ 0 → Rising 0 (others ps)
unfolding disorder
disorder_none ps k = ordered (begin_number ps) 0 (others ps) (go (metadata ps)) k
  where
    go : (c : Bool) → 0 < (if c then 2 else 1)
    go true = omega arith
    go false = omega arith

-- ---- an area's pairs, of which the first was taken

module _ (s t : Source) where
  pub metadata_first : (r : Option (ℕ × ℕ)) → YieldsFirst pairs_in s r t → option_eq (λ x y. eqb x.0 y.0 && eqb x.1 y.1) r (Some (0, 0)) ≡ metadata (pairs_in s)
  metadata_first None h = rw h.0
  metadata_first (Some p) h = rw h

  behind_is : (r : Option (ℕ × ℕ)) → YieldsFirst pairs_in s r t → pairs_in t ≡ behind_first (pairs_in s)
  behind_is None h = rw (h.0, h.1)
  behind_is (Some p) h = rw h

  -- the others, and the number of the first of them
  abbrev pub Others : Source → ℕ → Type 0
  Others o n = (pairs_in o ≡ others (pairs_in s)) × (n ≡ begin_number (pairs_in s))

  pub others_behind : (r : Option (ℕ × ℕ)) → YieldsFirst pairs_in s r t → metadata (pairs_in s) ≡ true → Others t 2
  others_behind r h m = (rw m (behind_is r h), rw m)

  pub others_all : metadata (pairs_in s) ≡ false → Others s 1
  others_all m = (rw m, rw m)

  pub others_disorder : (o : Source) (n : ℕ) → Others o n → out_of_order n 0 (pairs_in o) ≡ disorder (pairs_in s)
  unfolding disorder
  others_disorder o n h = rw (h.0, h.1)
