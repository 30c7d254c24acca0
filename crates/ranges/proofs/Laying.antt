-- Ranges stored one behind the other: what is stored where a range is closed, and that closing at each change of label stores the longest ranges.
-- Assumes nothing.
use Prim.Native.Nat.{ℕ, suc, ◌+◌, ◌*◌, ◌/◌, ◌≤◌, ◌<◌}
use mathlib.Core.Path.{◌≡◌, refl, sym, ap, ap₂, ◌∙◌}
use mathlib.Core.Bool.{Bool, true, false}
use mathlib.Core.List.{List, [], ◌∷◌, ◌++◌}
use mathlib.Core.Logic.{⊎_elim}
use native.Mathlib.Omega.{arith}
use native.Mathlib.Nat.{add-zero, div-add-mod', mul-le-mul_right, le-div_iff_mul-le}
use lib.Dec.{ltb, eqb, lit<}
use lib.ListN.{length, set, drop, length-append}
use lib.Seq.{sets, length-sets, sets-eq}
use borrow.Author.Tests.{lt-ltb, le-ltb, eq-eqb, ne_eqb}
use Rattle.std.specs.Prelude.{if◌then◌else◌}
use Rattle.fields.proofs.BigEndian.{sets_append}
use Rattle.ranges.specs.declared.tape.Open.{Open}
use Rattle.ranges.specs.Runs.{Run, range, in_front, ApartFrom}
use Rattle.ranges.specs.Laying.{wide, numbers_of, flat}
use Rattle.ranges.specs.Within.{placed, laid, closed, closing, closed_into, turned_open, turned_into}
use Rattle.ranges.proofs.Tests.{eq?}
use Rattle.ranges.proofs.Runs.{closed_none, closed_some, in_front_twice, in_front_unlike, in_front_last}

-- ---- one place

module _ (labelled : Bool) (s : List ℕ) (i : ℕ) (r : Run) where
  pub no_place : (size : ℕ) → size ≡ wide labelled → length s / size ≤ i → s ≡ placed labelled s i r
  unfolding placed
  no_place size e h = let k : length s / wide labelled ≤ i = rw e at h in rw (le-ltb _ _ k)

  some_place : (size : ℕ) → size ≡ wide labelled → i < length s / size → sets s (size * i) (numbers_of labelled r) ≡ placed labelled s i r
  unfolding placed
  some_place size e h = let k : i < length s / wide labelled = rw e at h in rw (lt-ltb _ _ k, e)

  pub length_placed : length (placed labelled s i r) ≡ length s
  unfolding placed
  length_placed = go (ltb i (length s / wide labelled))
    where
      go : (c : Bool) → length (if c then sets s (wide labelled * i) (numbers_of labelled r) else s) ≡ length s
      go true = length-sets s (wide labelled * i) (numbers_of labelled r)
      go false = refl

wide_positive : (labelled : Bool) → 0 < wide labelled
wide_positive true = lit< tt
wide_positive false = lit< tt

-- the place of an index lies in the numbers
pub place_fits : (n size i : ℕ) → i < n / size → size * i + size ≤ n
place_fits n size i h = omega (arith, div-add-mod' n size, mul-le-mul_right size h)

module _ (s : List ℕ) (i from to l size : ℕ) where
  pub place_three : (labelled : Bool) → labelled ≡ true → size ≡ wide labelled → i < length s / size
      → set (set (set s (size * i) from) (size * i + 1) to) (size * i + 2) l ≡ placed labelled s i (range from to l)
  place_three true t e h =
      let p : size * i + 1 ≡ suc (size * i) = omega arith in
      let q : size * i + 2 ≡ suc (suc (size * i)) = omega arith in
      rw (p, q) (some_place true s i (range from to l) size e h)
  place_three false t e h = absurd (let z : ◌≡◌ {A = ℕ} 0 1 = cc in let b : ⊥ = omega arith in b)

  pub place_two : (labelled : Bool) → labelled ≡ false → size ≡ wide labelled → i < length s / size
      → set (set s (size * i) from) (size * i + 1) to ≡ placed labelled s i (range from to l)
  place_two false t e h =
      let p : size * i + 1 ≡ suc (size * i) = omega arith in
      rw p (some_place false s i (range from to l) size e h)
  place_two true t e h = absurd (let z : ◌≡◌ {A = ℕ} 0 1 = cc in let b : ⊥ = omega arith in b)

pub length_laid : (labelled : Bool) (s : List ℕ) (i : ℕ) (rs : List Run) → length (laid labelled s i rs) ≡ length s
length_laid labelled s i [] = refl
length_laid labelled s i (r ∷ rs) = length_laid labelled (placed labelled s i r) (i + 1) rs ∙ length_placed labelled s i r

-- ---- all of them, where there is room

length_numbers : (labelled : Bool) (r : Run) → length (numbers_of labelled r) ≡ wide labelled
length_numbers true (range from to l) = refl
length_numbers false (range from to l) = refl

pub length_flat : (labelled : Bool) (rs : List Run) → length (flat labelled rs) ≡ wide labelled * length rs
length_flat labelled [] = let e : 0 ≡ wide labelled * 0 = omega arith in e
length_flat labelled (r ∷ rs) =
    length-append (numbers_of labelled r) (flat labelled rs)
    ∙ (let e : length (numbers_of labelled r) + length (flat labelled rs) ≡ wide labelled * suc (length rs) = omega (arith, length_numbers labelled r, length_flat labelled rs) in e)

laid_sets : (labelled : Bool) (s : List ℕ) (i : ℕ) (rs : List Run) → wide labelled * (i + length rs) ≤ length s
    → laid labelled s i rs ≡ sets s (wide labelled * i) (flat labelled rs)
laid_sets labelled s i [] h = refl
laid_sets labelled s i (r ∷ rs) h =
    let k : i < length s / wide labelled = (le-div_iff_mul-le (wide_positive labelled)).1 (omega arith) in
    let e : wide labelled * i + length (numbers_of labelled r) ≡ wide labelled * (i + 1) = omega (arith, length_numbers labelled r) in
    laid_sets labelled (placed labelled s i r) (i + 1) rs (omega (arith, length_placed labelled s i r))
    ∙ ap (λ (x : List ℕ). sets x (wide labelled * (i + 1)) (flat labelled rs)) (sym (some_place labelled s i r (wide labelled) refl k))
    ∙ sym
    (sets_append (numbers_of labelled r) (flat labelled rs) s (wide labelled * i)
    ∙ ap (λ (j : ℕ). sets (sets s (wide labelled * i) (numbers_of labelled r)) j (flat labelled rs)) e)

-- ranges that have room are stored in front, and the rest is as it was
pub laid_all : (labelled : Bool) (s : List ℕ) (rs : List Run) → wide labelled * length rs ≤ length s
    → laid labelled s 0 rs ≡ flat labelled rs ++ drop (wide labelled * length rs) s
laid_all labelled s rs h =
    let z : wide labelled * 0 ≡ 0 = omega arith in
    let n = length_flat labelled rs in
    laid_sets labelled s 0 rs (let k : wide labelled * (0 + length rs) ≤ length s = omega arith in k)
    ∙ ap (λ (j : ℕ). sets s j (flat labelled rs)) z
    ∙ sets-eq (flat labelled rs) s 0 (omega arith)
    ∙ ap (λ (j : ℕ). flat labelled rs ++ drop j s) (let e : 0 + length (flat labelled rs) ≡ wide labelled * length rs = omega arith in e)

-- ---- closing a range

pub closing_none : (l : ℕ) → l ≡ 0 → closing l ≡ 0
unfolding closing
closing_none l h = rw (eq-eqb _ _ h)

pub closing_some : (l : ℕ) → (l ≡ 0 → ⊥) → closing l ≡ 1
unfolding closing
closing_some l h = rw (ne_eqb _ _ h)

pub closing_most : (l : ℕ) → closing l ≤ 1
closing_most l = ⊎_elim (λ z. omega (arith, closing_none l z)) (λ z. omega (arith, closing_some l z)) (eq? l 0)

pub length_closed : (from to l : ℕ) (rs : List Run) → length (closed from to l rs) ≡ closing l + length rs
length_closed from to l rs =
    ⊎_elim (λ z. ap length (closed_none from to l rs z) ∙ (let e : length rs ≡ closing l + length rs = omega (arith, closing_none l z) in e))
    (λ z. ap length (closed_some from to l rs z) ∙ (let e : suc (length rs) ≡ closing l + length rs = omega (arith, closing_some l z) in e)) (eq? l 0)

module _ (labelled : Bool) (s : List ℕ) (o : Open) (at : ℕ) where
  pub close_none : o.label ≡ 0 → (o.count ≡ o.count + closing o.label) × (s ≡ closed_into labelled s o at)
  unfolding closed_into
  close_none z = (omega (arith, closing_none o.label z), rw (closed_none o.from at o.label [] z))

  pub close_some : (o.label ≡ 0 → ⊥) → (s' : List ℕ) → s' ≡ placed labelled s o.count (range o.from at o.label)
      → (o.count + 1 ≡ o.count + closing o.label) × (s' ≡ closed_into labelled s o at)
  unfolding closed_into
  close_some z s' e = (omega (arith, closing_some o.label z), rw (closed_some o.from at o.label [] z, e))

  pub length_closed_into : length (closed_into labelled s o at) ≡ length s
  unfolding closed_into
  length_closed_into = length_laid labelled s o.count (closed o.from at o.label [])

  -- a range that is closed, and then more
  laid_closed : (rs : List Run)
      → laid labelled s o.count (closed o.from at o.label rs) ≡ laid labelled (closed_into labelled s o at) (o.count + closing o.label) rs
  unfolding closed_into
  laid_closed rs =
      ⊎_elim (λ z. rw (closed_none o.from at o.label rs z, closed_none o.from at o.label [] z, closing_none o.label z, add-zero))
      (λ z. rw (closed_some o.from at o.label rs z, closed_some o.from at o.label [] z, closing_some o.label z))
      (eq? o.label 0)

-- ---- a change of label

module _ (labelled : Bool) (s : List ℕ) (o : Open) (at l : ℕ) where
  pub turned_same : o.label ≡ l → (o ≡ turned_open o at l) × (s ≡ turned_into labelled s o at l)
  unfolding turned_open turned_into
  turned_same e = (rw (eq-eqb _ _ e), rw (eq-eqb _ _ e))

  pub turned_other : (o.label ≡ l → ⊥) → (n : ℕ) (s' : List ℕ) → n ≡ o.count + closing o.label → s' ≡ closed_into labelled s o at
      → (record { from = at; label = l; count = n } ≡ turned_open o at l) × (s' ≡ turned_into labelled s o at l)
  unfolding turned_open turned_into
  turned_other e n s' p q = (rw (ne_eqb _ _ e, p), rw (ne_eqb _ _ e, q))

  pub length_turned_into : length (turned_into labelled s o at l) ≡ length s
  unfolding turned_into
  length_turned_into = go (eqb o.label l)
    where
      go : (c : Bool) → length (if c then s else closed_into labelled s o at) ≡ length s
      go true = refl
      go false = length_closed_into labelled s o at

  module _ (to : ℕ) (rs : List Run) (ahead : at < to) (h : ApartFrom to 0 rs) (o' : Open) (s' : List ℕ) (eo : o' ≡ turned_open o at l) (es : s' ≡ turned_into labelled s o at l) where
    -- storing what is left stores the same as before
    pub turn_laid : laid labelled s' o'.count (in_front o'.from to o'.label rs) ≡ laid labelled s o.count (in_front o.from at o.label (in_front at to l rs))
    turn_laid = ⊎_elim goes_on changes (eq? o.label l)
      where
        goes_on : o.label ≡ l
            → laid labelled s' o'.count (in_front o'.from to o'.label rs) ≡ laid labelled s o.count (in_front o.from at o.label (in_front at to l rs))
        goes_on e =
            let p = eo ∙ sym (turned_same e).0 in
            let q = es ∙ sym (turned_same e).1 in
            ap₂ (λ (x : Open) (y : List ℕ). laid labelled y x.count (in_front x.from to x.label rs)) p q
            ∙ ap (laid labelled s o.count)
            (sym (in_front_twice o.from at to o.label rs) ∙ ap (λ (k : ℕ). in_front o.from at o.label (in_front at to k rs)) e)

        changes : (o.label ≡ l → ⊥)
            → laid labelled s' o'.count (in_front o'.from to o'.label rs) ≡ laid labelled s o.count (in_front o.from at o.label (in_front at to l rs))
        changes e =
            let w = turned_other e (o.count + closing o.label) (closed_into labelled s o at) refl refl in
            ap₂ (λ (x : Open) (y : List ℕ). laid labelled y x.count (in_front x.from to x.label rs)) (eo ∙ sym w.0) (es ∙ sym w.1)
            ∙ sym (laid_closed labelled s o at (in_front at to l rs))
            ∙ ap (laid labelled s o.count) (sym (in_front_unlike o.from at to o.label l rs e ahead h))

    -- and so many are left
    pub turn_count : o'.count + length (in_front o'.from to o'.label rs) ≡ o.count + length (in_front o.from at o.label (in_front at to l rs))
    turn_count = ⊎_elim goes_on changes (eq? o.label l)
      where
        goes_on : o.label ≡ l
            → o'.count + length (in_front o'.from to o'.label rs) ≡ o.count + length (in_front o.from at o.label (in_front at to l rs))
        goes_on e =
            ap (λ (x : Open). x.count + length (in_front x.from to x.label rs)) (eo ∙ sym (turned_same e).0)
            ∙ ap (λ (x : List Run). o.count + length x)
            (sym (in_front_twice o.from at to o.label rs) ∙ ap (λ (k : ℕ). in_front o.from at o.label (in_front at to k rs)) e)

        changes : (o.label ≡ l → ⊥)
            → o'.count + length (in_front o'.from to o'.label rs) ≡ o.count + length (in_front o.from at o.label (in_front at to l rs))
        changes e =
            let w = turned_other e (o.count + closing o.label) (closed_into labelled s o at) refl refl in
            let n = length_closed o.from at o.label (in_front at to l rs) in
            ap (λ (x : Open). x.count + length (in_front x.from to x.label rs)) (eo ∙ sym w.0)
            ∙ (let k : o.count + closing o.label + length (in_front at to l rs) ≡ o.count + length (closed o.from at o.label (in_front at to l rs)) = omega arith in k)
            ∙ ap (λ (x : List Run). o.count + length x) (sym (in_front_unlike o.from at to o.label l rs e ahead h))

    -- no more ranges than bytes
    pub turn_most : o.count + closing o.label ≤ at → o'.count + closing o'.label ≤ to
    turn_most k = ⊎_elim goes_on changes (eq? o.label l)
      where
        goes_on : o.label ≡ l → o'.count + closing o'.label ≤ to
        goes_on e = rw (eo ∙ sym (turned_same e).0) (omega arith)

        changes : (o.label ≡ l → ⊥) → o'.count + closing o'.label ≤ to
        changes e =
            let w = turned_other e (o.count + closing o.label) (closed_into labelled s o at) refl refl in
            rw (eo ∙ sym w.0) (omega (arith, closing_most l))

-- nothing is left
module _ (labelled : Bool) (s : List ℕ) (o : Open) (at : ℕ) where
  pub end_laid : laid labelled s o.count (in_front o.from at o.label []) ≡ closed_into labelled s o at
  unfolding closed_into
  end_laid = ap (laid labelled s o.count) (in_front_last o.from at o.label)

  pub end_count : o.count + length (in_front o.from at o.label []) ≡ o.count + closing o.label
  end_count =
      let e = ap length (in_front_last o.from at o.label) ∙ length_closed o.from at o.label [] in
      let e' : closing o.label + length {A = Run} [] ≡ closing o.label = add-zero (closing o.label) in
      omega arith
