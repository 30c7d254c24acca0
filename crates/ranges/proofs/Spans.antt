-- Ranges of one label as pairs: they rise, ask for exactly the bytes of that label, and are the only apart pairs that do.
-- Two lists are merged the same whichever pairs ask for the same bytes. Assumes nothing.
use Prim.Native.Nat.{ℕ, suc, ◌+◌, ◌*◌, ◌≤◌, ◌<◌}
use mathlib.Core.Path.{◌≡◌, refl, sym, ap, ◌∙◌}
use mathlib.Core.Bool.{Bool, true, false, not, ◌&&◌, ◌||◌}
use mathlib.Core.List.{List, [], ◌∷◌, ◌++◌}
use mathlib.Core.Logic.{⊎_elim}
use native.Mathlib.Omega.{arith}
use lib.Dec.{leb, ltb, eqb}
use lib.ListN.{length, take, drop}
use lib.Seq.{take_at}
use borrow.Author.Tests.{ne_eqb}
use Rattle.std.specs.Prelude.{if◌then◌else◌}
use Rattle.ranges.specs.declared.merge.Rule.TheVariants.{Either, Without}
use Rattle.ranges.specs.Runs.{Run, range, runs, ApartFrom, label_in}
use Rattle.ranges.specs.Pairs.{asks, Rising, twos, spans, ApartBehind, Apart, in_or_not}
use Rattle.ranges.specs.Merging.{largest, label_of, labelling, merged}
use Rattle.ranges.specs.Laying.{flat}
use Rattle.ranges.proofs.Tests.{lt?}
use Rattle.ranges.proofs.Runs.{label_here, label_after, runs_apart, runs_label, runs_beyond, runs_only}
use Rattle.ranges.proofs.Laying.{length_flat}

-- ---- ranges as pairs and as numbers

pub spans_rise : (e k : ℕ) (rs : List Run) → ApartFrom e k rs → Rising e (spans rs)
spans_rise e k [] h = tt
spans_rise e k (range a b l ∷ rs) h = (h.0, h.1, spans_rise b l rs h.4)

pub spans_ask : (e k : ℕ) (rs : List Run) (b : ℕ) → ApartFrom e k rs → asks (spans rs) b ≡ not (eqb (label_in rs b) 0)
spans_ask e k [] b h = refl
spans_ask e k (range x y l ∷ rs) b h = go (leb x b && ltb b y) (spans_ask y l rs b h.4)
  where
    go : (c : Bool) → asks (spans rs) b ≡ not (eqb (label_in rs b) 0) → (c || asks (spans rs) b) ≡ not (eqb (if c then l else label_in rs b) 0)
    go true more = rw (ne_eqb l 0 h.2)
    go false more = more

pub length_spans : (rs : List Run) → length (spans rs) ≡ length rs
length_spans [] = refl
length_spans (range a b l ∷ rs) = ap suc (length_spans rs)

pub twos_flat : (rs : List Run) → twos (flat false rs) ≡ spans rs
twos_flat [] = refl
twos_flat (range a b l ∷ rs) = ap (λ (x : List (ℕ × ℕ)). (a, b) ∷ x) (twos_flat rs)

-- in numbers that begin with ranges, two for each, so many numbers are those ranges
pub twos_front : (rs : List Run) (s : List ℕ) (n : ℕ) → n ≡ length rs → twos (drop 0 (take (2 * n) (flat false rs ++ s))) ≡ spans rs
twos_front rs s n e = ap twos (take_at (flat false rs) s (2 * n) (length_flat false rs ∙ ap (λ (x : ℕ). 2 * x) (sym e))) ∙ twos_flat rs

-- ---- the ranges depend on the labels alone

pub runs_like : (f g : ℕ → ℕ) (at n : ℕ) → ((b : ℕ) → at ≤ b → b < at + n → f b ≡ g b) → runs f at n ≡ runs g at n
runs_like f g at n h = runs_only g at n (runs f at n) (runs_apart f at n) (λ b p q. runs_label f at n b p q ∙ h b p q) (λ b p. runs_beyond f at n b p)

-- the pairs of the bytes that are in ask for those
pub in_ask : (g : ℕ → Bool) (n b : ℕ) → b < n → asks (spans (runs (in_or_not g) 0 n)) b ≡ g b
in_ask g n b h =
    spans_ask 0 0 (runs (in_or_not g) 0 n) b (runs_apart (in_or_not g) 0 n)
    ∙ ap (λ (x : ℕ). not (eqb x 0)) (runs_label (in_or_not g) 0 n b (omega arith) (omega arith))
    ∙ go (g b)
  where
    go : (c : Bool) → not (eqb (if c then 1 else 0) 0) ≡ c
    go true = refl
    go false = refl

pub in_rise : (g : ℕ → Bool) (n : ℕ) → Rising 0 (spans (runs (in_or_not g) 0 n))
in_rise g n = spans_rise 0 0 (runs (in_or_not g) 0 n) (runs_apart (in_or_not g) 0 n)

-- what is in, and more pairs: in either, or in the first alone
pub either_in : (g : ℕ → Bool) (ps : List (ℕ × ℕ)) → merged Either (spans (runs (in_or_not g) 0 largest)) ps ≡ runs (in_or_not (λ b. g b || asks ps b)) 0 largest
unfolding merged
either_in g ps =
    runs_like (labelling Either (spans (runs (in_or_not g) 0 largest)) ps) (in_or_not (λ b. g b || asks ps b)) 0 largest
    (λ b p q. ap (λ (x : Bool). label_of Either x (asks ps b)) (in_ask g largest b (omega arith)) ∙ go (g b) (asks ps b))
  where
    go : (c d : Bool) → label_of Either c d ≡ (if c || d then 1 else 0)
    go true d = refl
    go false true = refl
    go false false = refl

pub without_in : (g : ℕ → Bool) (ps : List (ℕ × ℕ))
    → merged Without (spans (runs (in_or_not g) 0 largest)) ps ≡ runs (in_or_not (λ b. g b && not (asks ps b))) 0 largest
unfolding merged
without_in g ps =
    runs_like (labelling Without (spans (runs (in_or_not g) 0 largest)) ps) (in_or_not (λ b. g b && not (asks ps b))) 0 largest
    (λ b p q. ap (λ (x : Bool). label_of Without x (asks ps b)) (in_ask g largest b (omega arith)) ∙ go (g b) (asks ps b))
  where
    go : (c d : Bool) → label_of Without c d ≡ (if c && not d then 1 else 0)
    go true true = refl
    go true false = refl
    go false d = refl

-- ---- apart pairs that ask for exactly those bytes are those ranges

-- pairs as ranges of label 1
abbrev as_runs : List (ℕ × ℕ) → List Run
as_runs [] = []
as_runs (p ∷ ps) = range p.0 p.1 1 ∷ as_runs ps

spans_as_runs : (ps : List (ℕ × ℕ)) → spans (as_runs ps) ≡ ps
spans_as_runs [] = refl
spans_as_runs (p ∷ ps) = ap (λ (x : List (ℕ × ℕ)). p ∷ x) (spans_as_runs ps)

as_runs_behind : (e k : ℕ) (ps : List (ℕ × ℕ)) → ApartBehind e ps → ApartFrom e k (as_runs ps)
as_runs_behind e k [] h = tt
as_runs_behind e k (p ∷ ps) h = (
  omega (arith, h.0),
  h.1,
  (λ z. absurd (let b : ⊥ = omega arith in b)),
  (λ u v. absurd (let b : ⊥ = omega (arith, h.0) in b)),
  as_runs_behind p.1 1 ps h.2,
)

as_runs_apart : (ps : List (ℕ × ℕ)) → Apart ps → ApartFrom 0 0 (as_runs ps)
as_runs_apart [] h = tt
as_runs_apart (p ∷ ps) h =
    (omega arith, h.0, (λ z. absurd (let b : ⊥ = omega arith in b)), (λ u v. absurd (let b : ⊥ = omega arith in b)), as_runs_behind p.1 1 ps h.1)

as_runs_label : (ps : List (ℕ × ℕ)) (b : ℕ) → label_in (as_runs ps) b ≡ (if asks ps b then 1 else 0)
as_runs_label [] b = refl
as_runs_label (p ∷ ps) b = go (leb p.0 b && ltb b p.1) (as_runs_label ps b)
  where
    go : (c : Bool) → label_in (as_runs ps) b ≡ (if asks ps b then 1 else 0) → (if c then 1 else label_in (as_runs ps) b) ≡ (if c || asks ps b then 1 else 0)
    go true h = refl
    go false h = h

-- 'they ask for exactly the missing bytes', with bytes g missing below n
pub apart_exact : (g : ℕ → Bool) (n : ℕ) (ps : List (ℕ × ℕ)) → Apart ps → ((b : ℕ) → b < n → asks ps b ≡ g b) → ((b : ℕ) → n ≤ b → asks ps b ≡ false)
    → ps ≡ spans (runs (in_or_not g) 0 n)
apart_exact g n ps h same none =
    sym (spans_as_runs ps)
    ∙ ap spans
    (runs_only (in_or_not g) 0 n (as_runs ps) (as_runs_apart ps h)
    (λ b p q. as_runs_label ps b ∙ ap (λ (c : Bool). if c then 1 else 0) (same b (omega arith)))
    (λ b p. as_runs_label ps b ∙ ap (λ (c : Bool). if c then 1 else 0) (none b (omega arith))))

-- and they are apart
spans_behind : (e k : ℕ) (rs : List Run) → k ≡ 1 → ApartFrom e k rs → ((b : ℕ) → e ≤ b → label_in rs b ≤ 1) → ApartBehind e (spans rs)
spans_behind e k [] z h one = tt
spans_behind e k (range x y l ∷ rs) z h one =
    (strict, h.1, spans_behind y l rs label h.4 (λ b p. rw (label_after x y l rs b p) at (one b (omega (arith, h.0, h.1)))))
  where
    label : l ≡ 1
    label =
        let m : l ≤ 1 = rw (label_here x y l rs x (omega arith) h.1) at (one x h.0) in
        let n = h.2 in
        omega arith

    strict : e < x
    strict =
        let n : e ≡ x → ⊥ = λ u. h.3 u (z ∙ sym label) in
        omega (arith, h.0)

spans_apart : (e : ℕ) (rs : List Run) → ApartFrom e 0 rs → ((b : ℕ) → e ≤ b → label_in rs b ≤ 1) → Apart (spans rs)
spans_apart e [] h one = tt
spans_apart e (range x y l ∷ rs) h one =
    (h.1, spans_behind y l rs label h.4 (λ b p. rw (label_after x y l rs b p) at (one b (omega (arith, h.0, h.1)))))
  where
    label : l ≡ 1
    label =
        let m : l ≤ 1 = rw (label_here x y l rs x (omega arith) h.1) at (one x h.0) in
        let n = h.2 in
        omega arith

pub in_apart : (g : ℕ → Bool) (n : ℕ) → Apart (spans (runs (in_or_not g) 0 n))
in_apart g n = spans_apart 0 (runs (in_or_not g) 0 n) (runs_apart (in_or_not g) 0 n) most
  where
    bit : (c : Bool) → (if c then 1 else 0) ≤ 1
    bit true = omega arith
    bit false = omega arith

    most : (b : ℕ) → 0 ≤ b → label_in (runs (in_or_not g) 0 n) b ≤ 1
    most b p =
        ⊎_elim (λ u. rw (runs_label (in_or_not g) 0 n b p (let q : b < 0 + n = omega arith in q)) (bit (g b)))
        (λ u. rw (runs_beyond (in_or_not g) 0 n b (let q : 0 + n ≤ b = omega arith in q)) (omega arith)) (lt? b n)
