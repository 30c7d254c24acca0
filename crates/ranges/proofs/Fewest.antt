-- No list of ranges of the same bytes is shorter than the apart one.
-- The first apart range begins in a range of the other list; that one ends at or before the first's end, since the byte there is not asked for.
-- So the others of that list ask for the rest, and they are fewer by one at least. Assumes nothing.
use Prim.Native.Nat.{ℕ, suc, ◌≤◌, ◌<◌}
use mathlib.Core.Path.{◌≡◌, refl, sym, ap, ap₂, ◌∙◌}
use mathlib.Core.Bool.{Bool, true, false, ◌&&◌, ◌||◌, and-false}
use mathlib.Core.List.{List, [], ◌∷◌}
use mathlib.Core.Logic.{⊎_elim}
use native.Mathlib.Omega.{arith}
use lib.Dec.{leb, ltb}
use lib.ListN.{length}
use borrow.Author.Tests.{le-leb, lt-leb, lt-ltb, le-ltb}
use Rattle.std.specs.Prelude.{if◌then◌else◌}
use Rattle.ranges.specs.Pairs.{asks, ApartBehind, Apart, spans, in_or_not}
use Rattle.ranges.specs.Merging.{largest}
use Rattle.ranges.specs.Runs.{runs}
use Rattle.ranges.specs.Owing.{ranges_of}
use Rattle.ranges.proofs.Tests.{lt?}
use Rattle.ranges.proofs.Spans.{in_apart}

-- the pairs that end behind e
abbrev beyond : ℕ → List (ℕ × ℕ) → List (ℕ × ℕ)
beyond e [] = []
beyond e (q ∷ qs) = if ltb e q.1 then q ∷ beyond e qs else beyond e qs

asked_here : (q : ℕ × ℕ) (qs : List (ℕ × ℕ)) (b : ℕ) → q.0 ≤ b → b < q.1 → asks (q ∷ qs) b ≡ true
asked_here q qs b h k = rw (le-leb q.0 b h, lt-ltb b q.1 k)

asked_later : (q : ℕ × ℕ) (qs : List (ℕ × ℕ)) (b : ℕ) → asks qs b ≡ true → asks (q ∷ qs) b ≡ true
asked_later q qs b h = go (leb q.0 b && ltb b q.1) h
  where
    go : (c : Bool) → asks qs b ≡ true → (c || asks qs b) ≡ true
    go true k = refl
    go false k = k

not_later : (q : ℕ × ℕ) (qs : List (ℕ × ℕ)) (b : ℕ) → asks (q ∷ qs) b ≡ false → asks qs b ≡ false
not_later q qs b h = go (leb q.0 b && ltb b q.1) h
  where
    go : (c : Bool) → (c || asks qs b) ≡ false → asks qs b ≡ false
    go true k = absurd (let z : ◌≡◌ {A = ℕ} 0 1 = cc in let x : ⊥ = omega arith in x)
    go false k = k

not_here : (q : ℕ × ℕ) (qs : List (ℕ × ℕ)) (b : ℕ) → asks (q ∷ qs) b ≡ false → q.0 ≤ b → b < q.1 → ⊥
not_here q qs b h k l = let e : true ≡ false = sym (asked_here q qs b k l) ∙ h in let z : ◌≡◌ {A = ℕ} 0 1 = cc in omega arith

apart_from : (q : ℕ × ℕ) (b : ℕ) → (q.0 ≤ b → b < q.1 → ⊥) → (leb q.0 b && ltb b q.1) ≡ false
apart_from q b n =
    ⊎_elim (λ u. rw (lt-leb q.0 b u)) (λ u. ⊎_elim (λ v. absurd (n u v)) (λ v. rw (le-ltb b q.1 v, and-false)) (lt? b q.1)) (lt? b q.0)

-- from e on those ask for the same bytes
beyond_asks : (e : ℕ) (qs : List (ℕ × ℕ)) (b : ℕ) → e ≤ b → asks (beyond e qs) b ≡ asks qs b
beyond_asks e [] b h = refl
beyond_asks e (q ∷ qs) b h =
    let more = beyond_asks e qs b h in
    ⊎_elim (λ u. rw (lt-ltb e q.1 u) (ap (λ (x : Bool). leb q.0 b && ltb b q.1 || x) more))
    (λ u. rw (le-ltb e q.1 u, le-ltb b q.1 (let k : q.1 ≤ b = omega arith in k), and-false) more) (lt? e q.1)

-- and for none before, where the byte at e is not asked for
beyond_none : (e : ℕ) (qs : List (ℕ × ℕ)) (b : ℕ) → asks qs e ≡ false → b < e → asks (beyond e qs) b ≡ false
beyond_none e [] b n h = refl
beyond_none e (q ∷ qs) b n h =
    let more = beyond_none e qs b (not_later q qs e n) h in
    ⊎_elim (λ u. rw (lt-ltb e q.1 u) (ap₂ (λ (x y : Bool). x || y) (apart_from q b (λ v w. not_here q qs e n (omega arith) u)) more))
    (λ u. rw (le-ltb e q.1 u) more) (lt? e q.1)

beyond_most : (e : ℕ) (qs : List (ℕ × ℕ)) → length (beyond e qs) ≤ length qs
beyond_most e [] = omega arith
beyond_most e (q ∷ qs) = go (ltb e q.1) (beyond_most e qs)
  where
    go : (c : Bool) → length (beyond e qs) ≤ length qs → length (if c then q ∷ beyond e qs else beyond e qs) ≤ suc (length qs)
    go true h = let k : suc (length (beyond e qs)) ≤ suc (length qs) = omega arith in k
    go false h = omega arith

-- one that asks for a byte before e is none of them
beyond_fewer : (e : ℕ) (qs : List (ℕ × ℕ)) (b : ℕ) → asks qs b ≡ true → asks qs e ≡ false → b < e → length (beyond e qs) < length qs
beyond_fewer e [] b a n h = absurd (let z : ◌≡◌ {A = ℕ} 0 1 = cc in let x : ⊥ = omega arith in x)
beyond_fewer e (q ∷ qs) b a n h = ⊎_elim (λ u. far u (λ (c : asks qs b ≡ true). beyond_fewer e qs b c (not_later q qs e n) h)) near (lt? e q.1)
  where
    far : e < q.1 → (asks qs b ≡ true → length (beyond e qs) < length qs) → length (beyond e (q ∷ qs)) < suc (length qs)
    far u more =
        let none = apart_from q b (λ v w. not_here q qs e n (omega arith) u) in
        let k = more (rw none at a) in
        rw (lt-ltb e q.1 u) (let m : suc (length (beyond e qs)) < suc (length qs) = omega arith in m)

    near : q.1 ≤ e → length (beyond e (q ∷ qs)) < suc (length qs)
    near u = rw (le-ltb e q.1 u) (omega (arith, beyond_most e qs))

-- ---- apart pairs

behind_below : (e b : ℕ) (ps : List (ℕ × ℕ)) → ApartBehind e ps → b ≤ e → asks ps b ≡ false
behind_below e b [] h k = refl
behind_below e b (p ∷ ps) h k = rw (lt-leb p.0 b (let m : b < p.0 = omega (arith, h.0) in m)) (behind_below p.1 b ps h.2 (omega (arith, h.0, h.1)))

-- the first of them, and those behind it: the pairs beyond its end ask for the rest, and are fewer
module _ (p : ℕ × ℕ) (ps qs : List (ℕ × ℕ)) (some : p.0 < p.1) (h : ApartBehind p.1 ps) (same : (b : ℕ) → asks qs b ≡ asks (p ∷ ps) b) where
  end_free : asks qs p.1 ≡ false
  end_free = same p.1 ∙ rw (le-ltb p.1 p.1 (let k : p.1 ≤ p.1 = omega arith in k), and-false) (behind_below p.1 p.1 ps h (omega arith))

  rest_fewer : length (beyond p.1 qs) < length qs
  rest_fewer = beyond_fewer p.1 qs p.0 (same p.0 ∙ asked_here p ps p.0 (omega arith) some) end_free some

  rest_same : (b : ℕ) → asks (beyond p.1 qs) b ≡ asks ps b
  rest_same b =
      ⊎_elim (λ u. beyond_none p.1 qs b end_free u ∙ sym (behind_below p.1 b ps h (omega arith)))
      (λ u. beyond_asks p.1 qs b u ∙ same b ∙ rw (le-ltb b p.1 u, and-false)) (lt? b p.1)

fewest_behind : (e : ℕ) (ps qs : List (ℕ × ℕ)) → ApartBehind e ps → ((b : ℕ) → asks qs b ≡ asks ps b) → length ps ≤ length qs
fewest_behind e [] qs h same = omega arith
fewest_behind e (p ∷ ps) qs h same =
    let rest = fewest_behind p.1 ps (beyond p.1 qs) h.2 (rest_same p ps qs h.1 h.2 same) in
    let k : suc (length ps) ≤ length qs = omega (arith, rest_fewer p ps qs h.1 h.2 same) in
    k

pub apart_fewest : (ps qs : List (ℕ × ℕ)) → Apart ps → ((b : ℕ) → asks qs b ≡ asks ps b) → length ps ≤ length qs
apart_fewest [] qs h same = omega arith
apart_fewest (p ∷ ps) qs h same =
    let rest = fewest_behind p.1 ps (beyond p.1 qs) h.1 (rest_same p ps qs h.0 h.1 same) in
    let k : suc (length ps) ≤ length qs = omega (arith, rest_fewer p ps qs h.0 h.1 same) in
    k

-- the longest ranges of bytes are the fewest
pub fewest : (g : ℕ → Bool) (qs : List (ℕ × ℕ)) → ((b : ℕ) → asks qs b ≡ asks (ranges_of g) b) → length (ranges_of g) ≤ length qs
unfolding ranges_of
fewest g qs same = apart_fewest (spans (runs (in_or_not g) 0 largest)) qs (in_apart g largest) same
