-- Room given up is used again, and each answer leaves one value.
-- A range that is resent whole leaves the others, which are apart; with one range more they are no more than 256. Assumes nothing.
use Prim.Native.Nat.{ℕ, ◌+◌, ◌≤◌, ◌<◌}
use mathlib.Core.Path.{◌≡◌, refl, sym, ap, ap₂, ◌∙◌}
use mathlib.Core.Bool.{Bool, true, false, not, ◌&&◌, ◌||◌, and-false}
use mathlib.Core.List.{List, [], ◌∷◌, ◌++◌}
use mathlib.Core.Logic.{⊎_elim}
use native.Mathlib.Omega.{arith}
use lib.Dec.{leb, ltb, eqb}
use lib.ListN.{length, length-append}
use borrow.Author.Tests.{le-leb, lt-leb, lt-ltb, le-ltb, ltb-true, ne_eqb}
use Rattle.std.specs.Prelude.{Result, Ok, Err, Option}
use Rattle.fields.specs.Answer.{Answer, accepted}
use Rattle.fields.proofs.OneToOne.{one_to_one, answer_back, told_back}
use Rattle.ranges.specs.declared.owed.FirstNak.{FirstNak}
use Rattle.ranges.specs.declared.owed.Stopped.{Stopped}
use Rattle.ranges.specs.Pairs.{asks, Rising, ApartBehind, Apart, in_or_not}
use Rattle.ranges.specs.Runs.{runs}
use Rattle.ranges.specs.Merging.{largest}
use Rattle.ranges.specs.Order.{others, disorder}
use Rattle.ranges.specs.Owing.{Entry, heard, resent, owed_after, ranges_of, State, most, first_with, in_order, differs, differs_from, after, judging}
use Rattle.ranges.specs.Log.{stop_answer}
use Rattle.ranges.specs.OwedDemands.{holding, RoomIsUsedAgain, OneRunResult}
use Rattle.ranges.proofs.Tests.{lt?}
use Rattle.ranges.proofs.Runs.{runs_apart, runs_beyond}
use Rattle.ranges.proofs.Spans.{spans_ask, apart_exact, in_apart}
use Rattle.ranges.proofs.Fewest.{fewest}
use Rattle.ranges.proofs.Prefixes.{ranges_ask, ranges_rise}

-- ---- a range resent whole

asks_append : (ps qs : List (ℕ × ℕ)) (b : ℕ) → asks (ps ++ qs) b ≡ (asks ps b || asks qs b)
asks_append [] qs b = refl
asks_append (p ∷ ps) qs b =
    ap (λ (x : Bool). leb p.0 b && ltb b p.1 || x) (asks_append ps qs b) ∙ go (leb p.0 b && ltb b p.1) (asks ps b) (asks qs b)
  where
    go : (x y z : Bool) → (x || (y || z)) ≡ (x || y || z)
    go true y z = refl
    go false y z = refl

below : (e b : ℕ) (ps : List (ℕ × ℕ)) → Rising e ps → b < e → asks ps b ≡ false
below e b [] h k = refl
below e b (p ∷ ps) h k = rw (lt-leb p.0 b (let m : b < p.0 = omega (arith, h.0) in m)) (below p.1 b ps h.2 (omega (arith, h.0, h.1)))

-- what is left asks for the bytes of all but that range
without : (e b : ℕ) (ps qs : List (ℕ × ℕ)) (p : ℕ × ℕ) → Rising e (ps ++ (p ∷ qs))
    → asks (ps ++ qs) b ≡ ((asks (ps ++ (p ∷ qs)) b || false) && not (asks (p ∷ []) b))
without e b [] qs p h = go (leb p.0 b) (ltb b p.1) refl
  where
    go : (c d : Bool) → ltb b p.1 ≡ d → asks qs b ≡ ((c && d || asks qs b || false) && not (c && d || false))
    go true true k = below p.1 b qs h.2 (ltb-true b p.1 k)
    go true false k = keep (asks qs b)
      where
        keep : (x : Bool) → x ≡ ((x || false) && true)
        keep true = refl
        keep false = refl
    go false d k = keep (asks qs b)
      where
        keep : (x : Bool) → x ≡ ((x || false) && true)
        keep true = refl
        keep false = refl
without e b (a ∷ ps) qs p h = go (leb a.0 b) (ltb b a.1) refl (without a.1 b ps qs p h.2)
  where
    go : (c d : Bool) → ltb b a.1 ≡ d → asks (ps ++ qs) b ≡ ((asks (ps ++ (p ∷ qs)) b || false) && not (asks (p ∷ []) b))
        → (c && d || asks (ps ++ qs) b) ≡ ((c && d || asks (ps ++ (p ∷ qs)) b || false) && not (asks (p ∷ []) b))
    go true true k more =
        let n : (asks ps b || asks (p ∷ qs) b) ≡ false = sym (asks_append ps (p ∷ qs) b) ∙ below a.1 b (ps ++ (p ∷ qs)) h.2 (ltb-true b a.1 k) in
        sym (ap not (first (asks ps b) (leb p.0 b && ltb b p.1) (asks qs b) n))
      where
        first : (x y z : Bool) → (x || (y || z)) ≡ false → (y || false) ≡ false
        first true y z q = absurd (let w : ◌≡◌ {A = ℕ} 0 1 = cc in let v : ⊥ = omega arith in v)
        first false true z q = absurd (let w : ◌≡◌ {A = ℕ} 0 1 = cc in let v : ⊥ = omega arith in v)
        first false false z q = refl
    go true false k more = more
    go false d k more = more

behind_weaker : (e e' : ℕ) (ps : List (ℕ × ℕ)) → e ≤ e' → ApartBehind e' ps → ApartBehind e ps
behind_weaker e e' [] k h = tt
behind_weaker e e' (p ∷ ps) k h = (omega (arith, h.0), h.1, h.2)

behind_without : (e : ℕ) (ps qs : List (ℕ × ℕ)) (p : ℕ × ℕ) → ApartBehind e (ps ++ (p ∷ qs)) → ApartBehind e (ps ++ qs)
behind_without e [] qs p h = behind_weaker e p.1 qs (omega (arith, h.0, h.1)) h.2
behind_without e (a ∷ ps) qs p h = (h.0, h.1, behind_without a.1 ps qs p h.2)

-- and is apart
apart_without : (ps qs : List (ℕ × ℕ)) (p : ℕ × ℕ) → Apart (ps ++ (p ∷ qs)) → Apart (ps ++ qs)
apart_without [] [] p h = tt
apart_without [] (q ∷ qs) p h = (h.1.1, h.1.2)
apart_without (a ∷ ps) qs p h = (h.0, behind_without a.1 ps qs p h.1)

-- that range is not empty
apart_in : (ps qs : List (ℕ × ℕ)) (p : ℕ × ℕ) (e : ℕ) → Rising e (ps ++ (p ∷ qs)) → p.0 < p.1
apart_in [] qs p e h = h.1
apart_in (a ∷ ps) qs p e h = apart_in ps qs p a.1 h.2

-- the ranges of bytes ask for none beyond
beyond_all : (g : ℕ → Bool) (b : ℕ) → largest ≤ b → asks (ranges_of g) b ≡ false
unfolding ranges_of
beyond_all g b h =
    spans_ask 0 0 (runs (in_or_not g) 0 largest) b (runs_apart (in_or_not g) 0 largest)
    ∙ ap (λ (x : ℕ). not (eqb x 0)) (runs_beyond (in_or_not g) 0 largest b (let k : 0 + largest ≤ b = omega arith in k))

ranges_apart : (g : ℕ → Bool) → Apart (ranges_of g)
unfolding ranges_of
ranges_apart g = in_apart g largest

ranges_exact : (g : ℕ → Bool) (ps : List (ℕ × ℕ)) → Apart ps → ((b : ℕ) → b < largest → asks ps b ≡ g b) → ((b : ℕ) → largest ≤ b → asks ps b ≡ false)
    → ps ≡ ranges_of g
unfolding ranges_of
ranges_exact g ps h same none = apart_exact g largest ps h same none

-- ---- 'room given up is used again'

after_is : (s : State) (e : Entry) → after s e ≡ record { ranges = ranges_of (owed_after (asks s.ranges) e); first = first_with s.first e }
unfolding after
after_is s e = refl

-- an entry in order, of the transaction, after which there are few enough ranges, is taken
taken : (s : State) (at : ℕ) (e : Entry) → in_order e ≡ true → differs_from s.first e ≡ false → length (after s e).ranges ≤ most
    → judging s at e ≡ accepted (after s e)
unfolding judging
taken s at e h k l = rw (h, k, le-ltb most (length (after s e).ranges) l)

one_in_order : (q : ℕ × ℕ) → q.0 < q.1 → (others (q ∷ []) ≡ q ∷ []) × (eqb (disorder (q ∷ [])) 0 ≡ true)
unfolding disorder
one_in_order q h =
    let n : q.1 ≡ 0 → ⊥ = λ e. omega arith in
    (rw (ne_eqb q.1 0 n, and-false), rw (ne_eqb q.1 0 n, and-false, le-leb 0 q.0 (let k : 0 ≤ q.0 = omega arith in k), lt-ltb q.0 q.1 h))

module _ (g : ℕ → Bool) (f : Option FirstNak) (ps qs : List (ℕ × ℕ)) (p : ℕ × ℕ) (e : ranges_of g ≡ ps ++ (p ∷ qs)) (full : length (ranges_of g) ≡ most) where
  rising : Rising 0 (ps ++ (p ∷ qs))
  rising = rw e at (ranges_rise g)

  none_beyond : (b : ℕ) → largest ≤ b → asks (ps ++ qs) b ≡ false
  none_beyond b h =
      without 0 b ps qs p rising ∙ ap (λ (x : Bool). (x || false) && not (asks (p ∷ []) b)) (ap (λ (xs : List (ℕ × ℕ)). asks xs b) (sym e) ∙ beyond_all g b h)

  left_over : ps ++ qs ≡ ranges_of (owed_after (asks (ranges_of g)) (resent p))
  left_over =
      ranges_exact (owed_after (asks (ranges_of g)) (resent p)) (ps ++ qs) (apart_without ps qs p (rw e at (ranges_apart g)))
      (λ b h. without 0 b ps qs p rising ∙ ap (λ (xs : List (ℕ × ℕ)). (asks xs b || false) && not (asks (p ∷ []) b)) (sym e))
      none_beyond

  fewer : length (ps ++ qs) + 1 ≡ most
  fewer =
      let n = length-append ps (p ∷ qs) in
      let k = length-append ps qs in
      let l : length (ps ++ (p ∷ qs)) ≡ most = ap length (sym e) ∙ full in
      omega arith

  given_up : (at : ℕ) → judging (holding (ranges_of g) f) at (resent p) ≡ accepted (holding (ps ++ qs) f)
  given_up at =
      let is : after (holding (ranges_of g) f) (resent p) ≡ holding (ps ++ qs) f = after_is (holding (ranges_of g) f) (resent p)
      ∙ ap (λ (x : List (ℕ × ℕ)). holding x f) (sym left_over) in
      taken (holding (ranges_of g) f) at (resent p) (lt-ltb p.0 p.1 (apart_in ps qs p 0 rising)) refl (rw is (omega (arith, fewer)))
      ∙ ap accepted is

  module _ (q : ℕ × ℕ) (source sequence : ℕ) (some : q.0 < q.1) (end : q.1 ≤ largest) (same : differs f source sequence ≡ false) where
    asks_all : (b : ℕ) → asks ((ps ++ qs) ++ (q ∷ [])) b ≡ asks (ranges_of (owed_after (asks (ps ++ qs)) (heard source sequence (q ∷ [])))) b
    asks_all b =
        asks_append (ps ++ qs) (q ∷ []) b
        ∙ ⊎_elim (λ u. inside u) outside (lt? b largest)
      where
        keep : (x y : Bool) → (x || y) ≡ ((x || y) && not false)
        keep true y = refl
        keep false true = refl
        keep false false = refl

        inside : b < largest → (asks (ps ++ qs) b || asks (q ∷ []) b) ≡ asks (ranges_of (owed_after (asks (ps ++ qs)) (heard source sequence (q ∷ [])))) b
        inside u =
            keep (asks (ps ++ qs) b) (asks (q ∷ []) b)
            ∙ ap (λ (xs : List (ℕ × ℕ)). (asks (ps ++ qs) b || asks xs b) && not false) (sym (one_in_order q some).0)
            ∙ sym (ranges_ask (owed_after (asks (ps ++ qs)) (heard source sequence (q ∷ []))) b u)

        outside : largest ≤ b → (asks (ps ++ qs) b || asks (q ∷ []) b) ≡ asks (ranges_of (owed_after (asks (ps ++ qs)) (heard source sequence (q ∷ [])))) b
        outside u =
            ap₂ (λ (x y : Bool). x || y) (none_beyond b u) (rw (le-ltb b q.1 (let k : q.1 ≤ b = omega arith in k), and-false))
            ∙ sym (beyond_all (owed_after (asks (ps ++ qs)) (heard source sequence (q ∷ []))) b u)

    used_again : (at : ℕ)
        → judging (holding (ps ++ qs) f) at (heard source sequence (q ∷ [])) ≡ accepted (after (holding (ps ++ qs) f) (heard source sequence (q ∷ [])))
    used_again at =
        let s = holding (ps ++ qs) f in
        let h = heard source sequence (q ∷ []) in
        let n = fewest (owed_after (asks (ps ++ qs)) h) ((ps ++ qs) ++ (q ∷ [])) asks_all in
        let l = length-append (ps ++ qs) (q ∷ []) in
        let k : length (ranges_of (owed_after (asks (ps ++ qs)) h)) ≤ most = omega (arith, fewer) in
        taken s at h (one_in_order q some).1 same (rw (after_is s h) k)

pub room_is_used_again : RoomIsUsedAgain
room_is_used_again g f ps qs p q at next source sequence e full some end same =
    (given_up g f ps qs p e full at, used_again g f ps qs p e full q source sequence some end same next)

stop_from : Answer (Unit {0}) × ℕ → Result ℕ Stopped
stop_from o = answer_back (λ _. Ok o.1) (λ r. Err (record { refusal = r; at = o.1 })) o.0

stop_back : (r : Result ℕ Stopped) → stop_from (stop_answer r) ≡ r
unfolding stop_from
stop_back (Ok at) = refl
stop_back (Err s) = told_back (λ _. Ok s.at) (λ r. Err (record { refusal = r; at = s.at })) s.refusal

pub one_run_result : OneRunResult
one_run_result = one_to_one stop_answer stop_from stop_back
