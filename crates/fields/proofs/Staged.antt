-- Laws of readers in stages, once for every reader: what one that goes on from another answers, what an accepted reading passed, and DEMAND 3.
-- Assumes nothing.
use Prim.Native.Nat.{ℕ, zero, suc, ◌+◌, ◌-◌, ◌≤◌, ◌<◌, zero-le, suc-le-suc}
use native.Mathlib.Nat.{le_of_eq, add-zero, add-suc, suc-add, add-sub_of_le, le_refl, le_trans}
use native.Mathlib.Numerals.{add-one}
use mathlib.Core.Logic.{◌⊎◌, inl, inr, ⊎_elim}
use native.Mathlib.Omega.{arith}
use mathlib.Core.Path.{◌≡◌, refl, sym, ap, ◌∙◌, subst}
use mathlib.Core.Bool.{Bool, true, false}
use mathlib.Core.List.{List, [], ◌∷◌, ◌++◌}
use lib.ListN.{length, take, length-append}
use lib.Seq.{take-append-le, take_all}
use lib.Dec.{ltb}
use borrow.Author.Tests.{ltb-true, ltb-false, lt-ltb, le-ltb}
use Rattle.std.specs.Prelude.{if◌then◌else◌}
use Rattle.fields.specs.Answer.{Answer, accepted, short, refused, told, and_then, Test, first_of}
use Rattle.fields.specs.Staged.{Staged, accept, refuse_if, need, run, ◌>>=◌, ◌>>◌, tests}
use Rattle.fields.proofs.Judging.{Passed, told_no, told_as, told_short, refused_then, accepted_then, went}
use Rattle.fields.specs.Demand3.{Final, firsts, heard, Demand3, AtMost}

pub run_bind : {A B : Type 0} (r : Staged A) (f : A → Staged B) (s : List ℕ) → run (r >>= f) s ≡ and_then (run r s) (λ a. run (f a) s)
run_bind (accept a) f s = refl
run_bind (refuse_if true ns r) f s = refl
run_bind (refuse_if false ns r) f s = run_bind r f s
run_bind (need n next) f s = go (ltb (length s) n) (run_bind (next (take n s)) f s)
  where
    go : (c : Bool) → run (next (take n s) >>= f) s ≡ and_then (run (next (take n s)) s) (λ a. run (f a) s)
        → (if c then short (length s) n else run (next (take n s) >>= f) s) ≡ and_then (if c then short (length s) n else run (next (take n s)) s) (λ a. run (f a) s)
    go true e = refl
    go false e = e

-- what the first of two readings refuses is refused, and behind what it accepts the second decides
pub refused_bind : {A B : Type 0} (ns : List ℕ) (r : Staged A) (f : A → Staged B) (s : List ℕ) → told ns ≡ run r s → told ns ≡ run (r >>= f) s
refused_bind ns r f s e = refused_then (run r s) (λ a. run (f a) s) ns e ∙ sym (run_bind r f s)

pub accepted_bind : {A B : Type 0} (r : Staged A) (f : A → Staged B) (s : List ℕ) (a : A) → accepted a ≡ run r s → run (f a) s ≡ run (r >>= f) s
accepted_bind r f s a e = accepted_then (run r s) (λ x. run (f x) s) a e ∙ sym (run_bind r f s)

-- a refusal stands before whatever is accepted at the end
pub told_before : {A B : Type 0} (ns : List ℕ) (r : Staged A) (f : A → B) (s : List ℕ) → told ns ≡ run (r >>= λ a. accept (f a)) s → told ns ≡ run r s
told_before ns (accept a) f s e = absurd (told_no ns (f a) e)
told_before ns (refuse_if true ms r) f s e = told_as ns ms e
told_before ns (refuse_if false ms r) f s e = told_before ns r f s e
told_before ns (need n next) f s e = go (ltb (length s) n) e (λ d. told_before ns (next (take n s)) f s d)
  where
    go : (c : Bool) → told ns ≡ (if c then short (length s) n else run (next (take n s) >>= λ a. accept (f a)) s)
        → (told ns ≡ run (next (take n s) >>= λ a. accept (f a)) s → told ns ≡ run (next (take n s)) s)
        → told ns ≡ (if c then short (length s) n else run (next (take n s)) s)
    go true d rest = told_short ns (length s) n d
    go false d rest = rest d

-- tests in front of stages: where one holds, that is the answer; where all are passed, the stages decide
pub tests_refused : {A B : Type 0} (ns : List ℕ) (ts : List Test) (r : Staged B) (a : A) (s : List ℕ) → told ns ≡ first_of ts a → told ns ≡ run (tests ts >> r) s
tests_refused ns [] r a s e = absurd (told_no ns a e)
tests_refused {A} {B} ns (t ∷ ts) r a s e = go t.holds e (λ d. tests_refused ns ts r a s d)
  where
    go : (c : Bool) → told ns ≡ (if c then refused t.says else first_of ts a) → (told ns ≡ first_of ts a → told ns ≡ run (tests ts >> r) s)
        → told ns ≡ (if c then refused t.says else run (tests ts >> r) s)
    go true d rest = told_as ns t.says d
    go false d rest = rest d

pub tests_passed : {A : Type 0} (ts : List Test) (r : Staged A) (s : List ℕ) → Passed ts → run (tests ts >> r) s ≡ run r s
tests_passed [] r s p = refl
tests_passed (t ∷ ts) r s p = rw p.0 (tests_passed ts r s p.1)

-- tests, and then an acceptance, are a judgement; they need no byte
pub run_tests : {A : Type 0} (ts : List Test) (a : A) (s : List ℕ) → run (tests ts >> accept a) s ≡ first_of ts a
run_tests [] a s = refl
run_tests {A} (t ∷ ts) a s = ap (λ (o : Answer A). if t.holds then refused t.says else o) (run_tests ts a s)

pub tests_none : {A : Type 0} (ts : List Test) (a : A) → AtMost (tests ts >> accept a) 0
tests_none [] a = tt
tests_none (t ∷ ts) a = tests_none ts a

-- an accepted reading in two parts accepted both
pub record Both {A B : Type 0} (r : Staged A) (f : A → Staged B) (s : List ℕ) (b : B) : Type 0 where
  pub mid : A
  pub first : run r s ≡ accepted mid
  pub second : run (f mid) s ≡ accepted b

pub both : {A B : Type 0} (r : Staged A) (f : A → Staged B) (s : List ℕ) (b : B) → run (r >>= f) s ≡ accepted b → Both r f s b
both r f s b e =
    let w = went (run r s) (λ a. run (f a) s) b (sym e ∙ run_bind r f s) in
    record { mid = w.mid; first = sym w.first; second = sym w.second }

pub at_most_more : {A : Type 0} (r : Staged A) (j k : ℕ) → AtMost r k → AtMost r (j + k)
at_most_more (accept a) j k h = tt
at_most_more (refuse_if c ns r) j k h = at_most_more r j k h
at_most_more (need n next) j zero h = absurd h
at_most_more (need n next) j (suc k) h = rw add-suc (λ b. at_most_more (next b) j k (h b))

pub at_most_bind : {A B : Type 0} (r : Staged A) (f : A → Staged B) (j k : ℕ) → AtMost r j → ((a : A) → AtMost (f a) k) → AtMost (r >>= f) (j + k)
at_most_bind (accept a) f j k hr hf = at_most_more (f a) j k (hf a)
at_most_bind (refuse_if c ns r) f j k hr hf = at_most_bind r f j k hr hf
at_most_bind (need n next) f zero k hr hf = absurd hr
at_most_bind (need n next) f (suc j) k hr hf = rw suc-add (λ b. at_most_bind (next b) f j k (hr b) hf)

-- ---- the laws

split : (a b : ℕ) → (a < b) ⊎ (b ≤ a)
split a b = go (ltb a b) refl
  where
    go : (t : Bool) → ltb a b ≡ t → (a < b) ⊎ (b ≤ a)
    go true e = inl (ltb-true a b e)
    go false e = inr (ltb-false a b e)

length_firsts : (f : ℕ → ℕ) (n : ℕ) → length (firsts f n) ≡ n
length_firsts f zero = refl
length_firsts f (suc n) = length-append (firsts f n) (f n ∷ []) ∙ add-one _ ∙ ap suc (length_firsts f n)

take_firsts : (f : ℕ → ℕ) (n k : ℕ) → take n (firsts f (n + k)) ≡ firsts f n
take_firsts f n zero = rw add-zero (take_all n (firsts f n) (le_of_eq (length_firsts f n)))
take_firsts f n (suc k) =
    let h : n ≤ length (firsts f (n + k)) = omega (arith, length_firsts f (n + k)) in
    rw (add-suc, take-append-le) (take_firsts f n k)

take_firsts_le : (f : ℕ → ℕ) (n m : ℕ) → n ≤ m → take n (firsts f m) ≡ firsts f n
take_firsts_le f n m h = subst (λ (j : ℕ). take n (firsts f j) ≡ firsts f n) (add-sub_of_le h) (take_firsts f n (m - n))

module _ {A : Type 0} where
  module _ (n : ℕ) (next : List ℕ → Staged A) (s : List ℕ) where
    run_short : length s < n → run (need n next) s ≡ short (length s) n
    run_short h = rw (lt-ltb _ _ h)

    run_long : n ≤ length s → run (need n next) s ≡ run (next (take n s)) s
    run_long h = rw (le-ltb _ _ h)

    run_longer : (t : List ℕ) → n ≤ length s → run (need n next) (s ++ t) ≡ run (next (take n s)) (s ++ t)
    run_longer t h =
        let l : n ≤ length (s ++ t) = omega (arith, length-append s t) in
        rw (le-ltb _ _ l, take-append-le)

  stable : (r : Staged A) (s t : List ℕ) → Final (run r s) → run r (s ++ t) ≡ run r s
  stable (accept a) s t e = refl
  stable (refuse_if true ns r) s t e = refl
  stable (refuse_if false ns r) s t e = stable r s t e
  stable (need n next) s t e =
      ⊎_elim (λ h. absurd (subst Final (run_short n next s h) e))
      (λ h. run_longer n next s t h ∙ stable (next (take n s)) s t (subst Final (run_long n next s h) e) ∙ sym (run_long n next s h))
      (split (length s) n)

  names : (r : Staged A) (s : List ℕ) (l n : ℕ) → run r s ≡ short l n → (l ≡ length s) × (l < n)
  names (accept a) s l n e = let z : ◌≡◌ {A = ℕ} 0 1 = cc in omega arith
  names (refuse_if false ns r) s l n e = names r s l n e
  names (refuse_if true ns r) s l n e = let z : ◌≡◌ {A = ℕ} 0 1 = cc in omega arith
  names (need m next) s l n e =
      ⊎_elim
      (λ h.
      let d : ◌≡◌ {A = Answer A} (short (length s) m) (short l n) = sym (run_short m next s h) ∙ e in
      let p : length s ≡ l = cc in
      let q : m ≡ n = cc in
      omega arith)
      (λ h. names (next (take m s)) s l n (sym (run_long m next s h) ∙ e))
      (split (length s) m)

  waits : (r : Staged A) (s t : List ℕ) (l n : ℕ) → run r s ≡ short l n → length (s ++ t) < n → run r (s ++ t) ≡ short (length (s ++ t)) n
  waits (accept a) s t l n e g = cc
  waits (refuse_if true ns r) s t l n e g = cc
  waits (refuse_if false ns r) s t l n e g = waits r s t l n e g
  waits (need m next) s t l n e g =
      ⊎_elim
      (λ h.
      let d : ◌≡◌ {A = Answer A} (short (length s) m) (short l n) = sym (run_short m next s h) ∙ e in
      let q : n ≡ m = cc in
      rw q (run_short m next (s ++ t) (rw q at g)))
      (λ h. run_longer m next s t h ∙ waits (next (take m s)) s t l n (sym (run_long m next s h) ∙ e) g)
      (split (length s) m)

  -- every test of an accepted reading was passed, every need was met, and what was accepted is what the last stage accepts
  abbrev pub PassedOf : Staged A → List ℕ → A → Type 0
  PassedOf (accept a) s x = a ≡ x
  PassedOf (refuse_if c ns r) s x = (c ≡ false) × PassedOf r s x
  PassedOf (need n next) s x = (n ≤ length s) × PassedOf (next (take n s)) s x

  pub passed_all : (r : Staged A) (s : List ℕ) (x : A) → run r s ≡ accepted x → PassedOf r s x
  passed_all (accept a) s x e = cc
  passed_all (refuse_if true ns r) s x e = let z : ◌≡◌ {A = ℕ} 0 1 = cc in absurd (let b : ⊥ = omega arith in b)
  passed_all (refuse_if false ns r) s x e = (refl, passed_all r s x e)
  passed_all (need n next) s x e =
      ⊎_elim
      (λ h.
      let d : ◌≡◌ {A = Answer A} (short (length s) n) (accepted x) = sym (run_short n next s h) ∙ e in
      let z : ◌≡◌ {A = ℕ} 0 1 = cc in
      absurd (let b : ⊥ = omega arith in b))
      (λ h. (h, passed_all (next (take n s)) s x (sym (run_long n next s h) ∙ e)))
      (split (length s) n)

  -- a reading that agrees with the stages from n bytes on hears at most k refusals from there
  heard_most : (r : Staged A) (k : ℕ) → AtMost r k → (read : List ℕ → Answer A) (f : ℕ → ℕ) (rounds n : ℕ)
      → ((m : ℕ) → n ≤ m → read (firsts f m) ≡ run r (firsts f m)) → heard read f rounds n ≤ k
  heard_most (accept a) k b read f zero n g = zero-le
  heard_most (accept a) k b read f (suc rounds) n g = rw (g n (le_refl n)) zero-le
  heard_most (refuse_if false ns r) k b read f rounds n g = heard_most r k b read f rounds n g
  heard_most (refuse_if true ns r) k b read f zero n g = zero-le
  heard_most (refuse_if true ns r) k b read f (suc rounds) n g = rw (g n (le_refl n)) zero-le
  heard_most (need m next) zero b read f rounds n g = absurd b
  heard_most (need m next) (suc k) b read f zero n g = zero-le
  heard_most (need m next) (suc k) b read f (suc rounds) n g =
      ⊎_elim
      (λ (h : n < m).
      let h' : length (firsts f n) < m = omega (arith, length_firsts f n) in
      rw (g n (le_refl n), run_short m next (firsts f n) h')
      (suc-le-suc (heard_most (next (firsts f m)) k (b (firsts f m)) read f rounds m (λ j hj. on j hj (omega arith)))))
      (λ (h : m ≤ n).
      le_trans (heard_most (next (firsts f m)) k (b (firsts f m)) read f (suc rounds) n (λ j hj. on j (omega arith) hj)) (omega arith))
      (split n m)
    where
      on : (j : ℕ) → m ≤ j → n ≤ j → read (firsts f j) ≡ run (next (firsts f m)) (firsts f j)
      on j hm hn =
          g j hn ∙ run_long m next (firsts f j) (omega (arith, length_firsts f j)) ∙
          ap (λ (l : List ℕ). run (next l) (firsts f j)) (take_firsts_le f m j hm)

  -- DEMAND 3 of every reading that agrees with stages
  pub demand3 : (read : List ℕ → Answer A) (k : ℕ) (r : Staged A) → AtMost r k → ((s : List ℕ) → read s ≡ run r s) → Demand3 read k
  demand3 read k r b g =
      record {
        final = λ s t h. g (s ++ t) ∙ stable r s t (subst Final (g s) h) ∙ sym (g s);
        below = λ s l n e. names r s l n (sym (g s) ∙ e);
        waits = λ s t l n e h. g (s ++ t) ∙ waits r s t l n (sym (g s) ∙ e) h;
        enough = λ s t l m n e h d. omega (arith, names r (s ++ t) m n (sym (g (s ++ t)) ∙ d));
        few = λ f rounds. heard_most r k b read f rounds 0 (λ m h. g (firsts f m));
      }
