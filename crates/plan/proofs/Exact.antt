-- The gaps between apart ranges are the missing ranges; and requests that are apart and ask for exactly the missing bytes are the gaps.
-- Assumes nothing.
use Prim.Native.Nat.{ℕ, zero, suc, ◌≤◌, ◌<◌}
use mathlib.Core.Path.{◌≡◌, refl, sym, ap, ◌∙◌}
use mathlib.Core.Bool.{Bool, true, false, ◌&&◌, ◌||◌, not, and-false}
use mathlib.Core.List.{List, [], ◌∷◌}
use mathlib.Core.Logic.{⊎_elim}
use native.Mathlib.Omega.{arith}
use lib.Dec.{leb, ltb, eqb}
use lib.ListN.{get_or}
use borrow.Author.Tests.{lt-ltb, le-ltb, le-leb, lt-leb, eq-eqb, eqb-true}
use Rattle.std.specs.Prelude.{if◌then◌else◌}
use Rattle.header.proofs.Comparing.{both_true}
use Rattle.ranges.specs.Runs.{runs}
use Rattle.ranges.specs.Pairs.{twos, asks, ApartBehind, Apart, spans, in_or_not}
use Rattle.ranges.specs.Merging.{largest}
use Rattle.ranges.proofs.Tests.{lt?}
use Rattle.ranges.proofs.Spans.{apart_exact}
use Rattle.plan.specs.Missing.{missing, apart, every_byte, same, missing_ranges}
use Rattle.plan.specs.Plans.{exactly}
use Rattle.plan.specs.Gaps.{front, gaps, same_pairs}
use Rattle.plan.proofs.Apart.{and_true, apart_says, apart_said}
use Rattle.plan.proofs.GapLaws.{lesser_is, lesser_not, greater_is, greater_not, gaps_none, gaps_some}

-- ---- the lesser and the greater of two numbers

pub record Lesser (a b m : ℕ) : Type 0 where
  pub first : m ≤ a
  pub second : m ≤ b
  pub above : (x : ℕ) → x < a → x < b → x < m

pub lesser : (a b : ℕ) → Lesser a b (if leb a b then a else b)
lesser a b =
    ⊎_elim (λ l. rw (lesser_not a b l) (record { first = omega arith; second = omega arith; above = λ x p q. q }))
    (λ l. rw (lesser_is a b l) (record { first = omega arith; second = omega arith; above = λ x p q. p }))
    (lt? b a)

pub record Greater (a b m : ℕ) : Type 0 where
  pub first : a ≤ m
  pub second : b ≤ m
  pub below : (x : ℕ) → a ≤ x → b ≤ x → m ≤ x

pub greater : (a b : ℕ) → Greater a b (if leb a b then b else a)
greater a b =
    ⊎_elim (λ l. rw (greater_not a b l) (record { first = omega arith; second = omega arith; below = λ x p q. p }))
    (λ l. rw (greater_is a b l) (record { first = omega arith; second = omega arith; below = λ x p q. q }))
    (lt? b a)

-- ---- the gaps are apart

pub behind_apart : (e : ℕ) (ps : List (ℕ × ℕ)) → ApartBehind e ps → Apart ps
behind_apart e [] h = tt
behind_apart e (p ∷ ps) h = (h.1, h.2)

front_behind : (e from to e' : ℕ) (rs : List (ℕ × ℕ)) → e < from → (from < to → ApartBehind to rs) → ApartBehind e rs → ApartBehind e (front from to rs)
front_behind e from to e' rs p some none = ⊎_elim (λ l. rw (lt-ltb from to l) (p, l, some l)) (λ l. rw (le-ltb from to l) none) (lt? from to)

pub gaps_behind : (e at stop : ℕ) (ps : List (ℕ × ℕ)) → e < at → Apart ps → ApartBehind e (gaps at stop ps)
gaps_behind e at stop [] l h = rw (gaps_none at stop) (front_behind e at stop e [] l (λ k. tt) tt)
gaps_behind e at stop (p ∷ ps) l h =
    rw (gaps_some at stop p ps)
    (front_behind e at (if leb stop p.0 then stop else p.0) e (gaps (if leb at p.1 then p.1 else at) stop ps) l
    (λ k. gaps_behind (if leb stop p.0 then stop else p.0) (if leb at p.1 then p.1 else at) stop ps (let u = lesser stop p.0 in let v = greater at p.1 in omega (arith, u.second, v.second, h.0)) (behind_apart p.1 ps h.1))
    (gaps_behind e (if leb at p.1 then p.1 else at) stop ps (let v = greater at p.1 in omega (arith, v.first)) (behind_apart p.1 ps h.1)))

front_apart : (from to : ℕ) (rs : List (ℕ × ℕ)) → (from < to → ApartBehind to rs) → Apart rs → Apart (front from to rs)
front_apart from to rs some none = ⊎_elim (λ l. rw (lt-ltb from to l) (l, some l)) (λ l. rw (le-ltb from to l) none) (lt? from to)

pub gaps_apart : (at stop : ℕ) (ps : List (ℕ × ℕ)) → Apart ps → Apart (gaps at stop ps)
gaps_apart at stop [] h = rw (gaps_none at stop) (front_apart at stop [] (λ k. tt) tt)
gaps_apart at stop (p ∷ ps) h =
    rw (gaps_some at stop p ps)
    (front_apart at (if leb stop p.0 then stop else p.0) (gaps (if leb at p.1 then p.1 else at) stop ps)
    (λ k. gaps_behind (if leb stop p.0 then stop else p.0) (if leb at p.1 then p.1 else at) stop ps (let u = lesser stop p.0 in let v = greater at p.1 in omega (arith, u.second, v.second, h.0)) (behind_apart p.1 ps h.1))
    (gaps_apart (if leb at p.1 then p.1 else at) stop ps (behind_apart p.1 ps h.1)))

-- ---- and ask for exactly the missing bytes

front_asks : (from to : ℕ) (rs : List (ℕ × ℕ)) (b : ℕ) → asks (front from to rs) b ≡ (leb from b && ltb b to || asks rs b)
front_asks from to rs b =
    ⊎_elim (λ l. rw (lt-ltb from to l))
    (λ l. ⊎_elim (λ k. rw (le-ltb from to l, lt-leb from b k)) (λ k. rw (le-ltb from to l, le-ltb b to (let z : to ≤ b = omega arith in z), and-false)) (lt? b from))
    (lt? from to)

asks_below : (e b : ℕ) (ps : List (ℕ × ℕ)) → ApartBehind e ps → b ≤ e → asks ps b ≡ false
asks_below e b [] h l = refl
asks_below e b (p ∷ ps) h l = rw (lt-leb p.0 b (let z : b < p.0 = omega (arith, h.0) in z)) (asks_below p.1 b ps h.2 (omega (arith, h.0, h.1)))

-- one received range, from x to y, and others behind it that have a byte or not: r
module _ (at stop x y m n b : ℕ) (u : Lesser stop x m) (v : Greater at y n) (l : x < y) (r : Bool) (below : b ≤ y → r ≡ false) where
  turn : (leb at b && ltb b m || (leb n b && ltb b stop && not r)) ≡ (leb at b && ltb b stop && not (leb x b && ltb b y || r))
  turn = ⊎_elim before_at (λ p. ⊎_elim (inside p) (beyond p) (lt? b stop)) (lt? b at)
    where
      before_at : b < at → (leb at b && ltb b m || (leb n b && ltb b stop && not r)) ≡ (leb at b && ltb b stop && not (leb x b && ltb b y || r))
      before_at p = rw (lt-leb at b p, lt-leb n b (let z : b < n = omega (arith, v.first) in z))

      beyond : at ≤ b → stop ≤ b → (leb at b && ltb b m || (leb n b && ltb b stop && not r)) ≡ (leb at b && ltb b stop && not (leb x b && ltb b y || r))
      beyond p q = rw (le-leb at b p, le-ltb b m (let z : m ≤ b = omega (arith, u.first) in z), le-ltb b stop q, and-false)

      inside : at ≤ b → b < stop → (leb at b && ltb b m || (leb n b && ltb b stop && not r)) ≡ (leb at b && ltb b stop && not (leb x b && ltb b y || r))
      inside p q =
          ⊎_elim (λ k. rw (le-leb at b p, lt-ltb b stop q, lt-ltb b m (u.above b q k), lt-leb x b k, below (omega arith)))
          (λ k. ⊎_elim (λ j. rw (le-leb at b p, lt-ltb b stop q, le-ltb b m (let z : m ≤ b = omega (arith, u.second) in z), lt-leb n b (let z : b < n = omega (arith, v.second) in z), le-leb x b k, lt-ltb b y j))
          (λ j. rw (le-leb at b p, lt-ltb b stop q, le-ltb b m (let z : m ≤ b = omega (arith, u.second) in z), le-leb n b (v.below b p j), le-ltb b y j, and-false))
          (lt? b y))
          (lt? b x)

nothing_after : (c : Bool) → (c || false) ≡ (c && not false)
nothing_after true = refl
nothing_after false = refl

pub gaps_ask : (at stop : ℕ) (ps : List (ℕ × ℕ)) (b : ℕ) → Apart ps → asks (gaps at stop ps) b ≡ missing ps at stop b
gaps_ask at stop [] b h = ap (λ (l : List (ℕ × ℕ)). asks l b) (gaps_none at stop) ∙ front_asks at stop [] b ∙ nothing_after (leb at b && ltb b stop)
gaps_ask at stop (p ∷ ps) b h =
    ap (λ (l : List (ℕ × ℕ)). asks l b) (gaps_some at stop p ps)
    ∙ front_asks at (if leb stop p.0 then stop else p.0) (gaps (if leb at p.1 then p.1 else at) stop ps) b
    ∙ ap (λ (c : Bool). leb at b && ltb b (if leb stop p.0 then stop else p.0) || c)
    (gaps_ask (if leb at p.1 then p.1 else at) stop ps b (behind_apart p.1 ps h.1))
    ∙ turn at stop p.0 p.1 (if leb stop p.0 then stop else p.0) (if leb at p.1 then p.1 else at) b (lesser stop p.0)
    (greater at p.1) h.0 (asks ps b) (λ k. asks_below p.1 b ps h.1 k)

missing_beyond : (ps : List (ℕ × ℕ)) (start end b : ℕ) → end ≤ b → missing ps start end b ≡ false
missing_beyond ps start end b l = rw (le-ltb b end l, and-false)

module _ (ps : List (ℕ × ℕ)) (start end : ℕ) (h : Apart ps) where
  gaps_runs : (n : ℕ) → end ≤ n → gaps start end ps ≡ spans (runs (in_or_not (missing ps start end)) 0 n)
  gaps_runs n l =
      apart_exact (missing ps start end) n (gaps start end ps) (gaps_apart start end ps h)
      (λ b k. gaps_ask start end ps b h)
      (λ b k. gaps_ask start end ps b h ∙ missing_beyond ps start end b (omega arith))

  pub gaps_missing : gaps start end ps ≡ missing_ranges ps start end
  unfolding missing_ranges
  gaps_missing = gaps_runs end (omega arith)

-- ---- every byte

pub every_says : (n : ℕ) (f : ℕ → Bool) → every_byte n f ≡ true → (b : ℕ) → b < n → f b ≡ true
unfolding every_byte
every_says zero f h b l = absurd (let z : ⊥ = omega arith in z)
every_says (suc n) f h b l =
    let a = both_true (every_byte n f) (f n) h in
    ⊎_elim (λ k. every_says n f a.0 b k) (λ k. let e : b ≡ n = omega arith in ap f e ∙ a.1) (lt? b n)

pub every_said : (n : ℕ) (f : ℕ → Bool) → ((b : ℕ) → b < n → f b ≡ true) → every_byte n f ≡ true
unfolding every_byte
every_said zero f h = refl
every_said (suc n) f h = and_true (every_byte n f) (f n) (every_said n f (λ b l. h b (omega arith))) (h n (omega arith))

same_says : (c d : Bool) → same c d ≡ true → c ≡ d
same_says true d e = sym e
same_says false true e = e
same_says false false e = refl

same_said : (c d : Bool) → c ≡ d → same c d ≡ true
same_said true d e = sym e
same_said false true e = e
same_said false false e = refl

-- ---- the same pairs

pub pairs_same : (ps qs : List (ℕ × ℕ)) → same_pairs ps qs ≡ true → ps ≡ qs
pairs_same [] [] e = refl
pairs_same [] (q ∷ qs) e = absurd (let z : ◌≡◌ {A = ℕ} 0 1 = cc in let b : ⊥ = omega arith in b)
pairs_same (p ∷ ps) [] e = absurd (let z : ◌≡◌ {A = ℕ} 0 1 = cc in let b : ⊥ = omega arith in b)
pairs_same (p ∷ ps) (q ∷ qs) e =
    let a = both_true (eqb p.0 q.0 && eqb p.1 q.1) (same_pairs ps qs) e in
    let b = both_true (eqb p.0 q.0) (eqb p.1 q.1) a.0 in
    let x : p.0 ≡ q.0 = eqb-true _ _ b.0 in
    let y : p.1 ≡ q.1 = eqb-true _ _ b.1 in
    let r = pairs_same ps qs a.1 in
    λ i. (x i, y i) ∷ r i

pub same_pairs_lem : (ps : List (ℕ × ℕ)) → same_pairs ps ps ≡ true
same_pairs_lem [] = refl
same_pairs_lem (p ∷ ps) =
    and_true (eqb p.0 p.0 && eqb p.1 p.1) (same_pairs ps ps)
    (and_true (eqb p.0 p.0) (eqb p.1 p.1) (eq-eqb p.0 p.0 refl) (eq-eqb p.1 p.1 refl)) (same_pairs_lem ps)

-- ---- requests that are apart and exact

asks_beyond : (n : ℕ) (ns : List ℕ) → ((i : ℕ) → get_or ns i 0 ≤ n) → (b : ℕ) → n ≤ b → asks (twos ns) b ≡ false
asks_beyond n [] h b l = refl
asks_beyond n (x ∷ []) h b l = refl
asks_beyond n (x ∷ y ∷ ns) h b l = rw (le-ltb b y (let z : y ≤ b = omega (arith, h 1) in z), and-false) (asks_beyond n ns (λ i. h (suc (suc i))) b l)

iff : (c d : Bool) → (c ≡ true → d ≡ true) → (d ≡ true → c ≡ true) → c ≡ d
iff true d p q = sym (p refl)
iff false true p q = q refl
iff false false p q = refl

module _ (ps : List (ℕ × ℕ)) (start end : ℕ) (h : Apart ps) where
  pub gaps_exactly : (rs : List (ℕ × ℕ)) → rs ≡ gaps start end ps → (apart rs ≡ true) × (exactly ps start end rs ≡ true)
  unfolding exactly
  gaps_exactly rs r = (
    ap apart r ∙ apart_said (gaps start end ps) (gaps_apart start end ps h),
    every_said largest (λ b. same (asks rs b) (missing ps start end b))
        (λ b l. same_said (asks rs b) (missing ps start end b) (ap (λ (l : List (ℕ × ℕ)). asks l b) r ∙ gaps_ask start end ps b h)),
  )

  module _ (small : end ≤ largest) (rs : List ℕ) (bounded : (i : ℕ) → get_or rs i 0 ≤ largest) where
    pub exact_gaps : apart (twos rs) ≡ true → exactly ps start end (twos rs) ≡ true → twos rs ≡ gaps start end ps
    unfolding exactly
    exact_gaps a e =
        let r : twos rs ≡ spans (runs (in_or_not (missing ps start end)) 0 largest) =
        apart_exact (missing ps start end) largest (twos rs) (apart_says (twos rs) a)
        (λ b l. same_says (asks (twos rs) b) (missing ps start end b) (every_says largest (λ b. same (asks (twos rs) b) (missing ps start end b)) e b l))
        (λ b l. asks_beyond largest rs bounded b l) in
        r ∙ sym (gaps_runs ps start end h largest small)

    pub apart_exactly : (apart (twos rs) && exactly ps start end (twos rs)) ≡ same_pairs (twos rs) (gaps start end ps)
    apart_exactly =
        iff (apart (twos rs) && exactly ps start end (twos rs)) (same_pairs (twos rs) (gaps start end ps))
        (λ e. let a = both_true (apart (twos rs)) (exactly ps start end (twos rs)) e in ap (λ (l : List (ℕ × ℕ)). same_pairs (twos rs) l) (sym (exact_gaps a.0 a.1)) ∙ same_pairs_lem (twos rs))
        (λ e. let b = gaps_exactly (twos rs) (pairs_same (twos rs) (gaps start end ps) e) in and_true (apart (twos rs)) (exactly ps start end (twos rs)) b.0 b.1)
