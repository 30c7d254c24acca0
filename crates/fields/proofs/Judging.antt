-- Laws of judgements: what is accepted passed every test, a refusal is handed on as it is, and what each leaves in a lent buffer.
-- Assumes nothing.
use Prim.Native.Nat.{ℕ, ◌+◌, ◌≤◌}
use mathlib.Core.Path.{◌≡◌, refl, sym, ap, ap₂, ◌∙◌}
use mathlib.Core.Bool.{Bool, true, false}
use mathlib.Core.List.{List, [], ◌∷◌, ◌++◌, append-nil}
use native.Mathlib.Nat.{zero-add}
use native.Mathlib.Omega.{arith}
use lib.Dec.{eqb}
use lib.ListN.{length, get_or, drop}
use lib.Seq.{sets, sets-eq}
use borrow.Author.Tests.{eqb-true}
use Rattle.std.specs.Prelude.{if◌then◌else◌}
use Rattle.fields.specs.declared.refusal.Refusal.{Refusal}
use Rattle.fields.specs.declared.refusal.Refusal.TheVariants.{FromSliceTooSmall}
use Rattle.fields.specs.Refusal.{paper}
use Rattle.fields.specs.Answer.{Answer, accepted, short, refused, told, and_then, Test, first_of, leaves, all_of}

-- every test is false
abbrev pub Passed : List Test → Type 0
Passed [] = Unit {0}
Passed (t ∷ ts) = (t.holds ≡ false) × Passed ts

one : {A : Type 0} (c : Bool) (ns : List ℕ) (x : A) (o : Answer A) → accepted x ≡ (if c then refused ns else o) → (c ≡ false) × (accepted x ≡ o)
one true ns x o e = let z : ◌≡◌ {A = ℕ} 0 1 = cc in absurd (omega arith)
one false ns x o e = (refl, e)

pub same_accepted : {A : Type 0} (x y : A) → ◌≡◌ {A = Answer A} (accepted x) (accepted y) → x ≡ y
same_accepted x y e = cc

-- what is accepted passed every test
pub passed : {A : Type 0} (ts : List Test) (x y : A) → accepted x ≡ first_of ts y → Passed ts × (x ≡ y)
passed [] x y e = (tt, same_accepted x y e)
passed (t ∷ ts) x y e =
    let p = one t.holds t.says x (first_of ts y) e in
    let q = passed ts x y p.1 in
    ((p.0, q.0), q.1)

-- and so every test of each part
pub passed_whole : {A : Type 0} (ts us : List Test) (x y : A) → accepted x ≡ first_of (ts ++ us) y → Passed ts
passed_whole [] us x y e = tt
passed_whole (t ∷ ts) us x y e =
    let p = one t.holds t.says x (first_of (ts ++ us) y) e in
    (p.0, passed_whole ts us x y p.1)

pub passed_first : (ts us : List Test) → Passed (ts ++ us) → Passed ts
passed_first [] us p = tt
passed_first (t ∷ ts) us p = (p.0, passed_first ts us p.1)

pub passed_last : (ts us : List Test) → Passed (ts ++ us) → Passed us
passed_last [] us p = p
passed_last (t ∷ ts) us p = passed_last ts us p.1

-- where the tests of a part are passed, the rest decides
pub passed_on : {A : Type 0} (ts us : List Test) (a : A) → Passed ts → first_of (ts ++ us) a ≡ first_of us a
passed_on [] us a p = refl
passed_on (t ∷ ts) us a p = rw p.0 (passed_on ts us a p.1)

pub all_passed : {A : Type 0} (ts : List Test) (a : A) → Passed ts → first_of ts a ≡ accepted a
all_passed [] a p = refl
all_passed (t ∷ ts) a p = rw p.0 (all_passed ts a p.1)

-- none of the tests says a refusal of that number
abbrev pub NoneSays : ℕ → List Test → Type 0
NoneSays n [] = Unit {0}
NoneSays n (t ∷ ts) = (get_or t.says 0 0 ≡ n → ⊥) × NoneSays n ts

-- and so it comes from those behind them
pub said_behind : {A : Type 0} (n : ℕ) (ms : List ℕ) (ts us : List Test) (a : A) → NoneSays n ts → first_of (ts ++ us) a ≡ refused (n ∷ ms)
    → Passed ts × (first_of us a ≡ refused (n ∷ ms))
said_behind n ms [] us a q e = (tt, e)
said_behind {A} n ms (t ∷ ts) us a q e = go t.holds refl e (λ d. said_behind n ms ts us a q.1 d)
  where
    go : (c : Bool) → t.holds ≡ c → ◌≡◌ {A = Answer A} (if c then refused t.says else first_of (ts ++ us) a) (refused (n ∷ ms))
        → (first_of (ts ++ us) a ≡ refused (n ∷ ms) → Passed ts × (first_of us a ≡ refused (n ∷ ms))) → Passed (t ∷ ts) × (first_of us a ≡ refused (n ∷ ms))
    go true p d rest =
        let h : t.says ≡ n ∷ ms = cc in
        absurd (q.0 (ap (λ (ns : List ℕ). get_or ns 0 0) h))
    go false p d rest = let r = rest d in ((p, r.0), r.1)

-- ---- refusals

-- refusal 1 is `short`, and every other one is `refused`
pub told_is_short : {A : Type 0} (l n : ℕ) → ◌≡◌ {A = Answer A} (told (1 ∷ l ∷ n ∷ [])) (short l n)
unfolding told
told_is_short l n = refl

pub told_is_refused : {A : Type 0} (n : ℕ) (ms : List ℕ) → eqb n 1 ≡ false → ◌≡◌ {A = Answer A} (told (n ∷ ms)) (refused (n ∷ ms))
unfolding told
told_is_refused n ms e = rw e

-- a refusal by its variant: all but the one for a short buffer
pub told_other_refusal : {A : Type 0} (r : Refusal) → ((found need : ℕ) → r ≡ FromSliceTooSmall found need → ⊥)
    → ◌≡◌ {A = Answer A} (told (paper r)) (refused (paper r))
unfolding told
told_other_refusal (FromSliceTooSmall found need) h = absurd (h found need refl)
told_other_refusal _ h = refl

-- what is so of both is so of a refusal
pub told_cases : {A X : Type 0} (f : Answer A → X) (x : X) (ns : List ℕ) → (get_or ns 0 0 ≡ 1 → f (short (get_or ns 1 0) (get_or ns 2 0)) ≡ x)
    → f (refused ns) ≡ x → f (told ns) ≡ x
unfolding told
told_cases f x ns p q = go (eqb (get_or ns 0 0) 1) refl
  where
    go : (c : Bool) → eqb (get_or ns 0 0) 1 ≡ c → f (if c then short (get_or ns 1 0) (get_or ns 2 0) else refused ns) ≡ x
    go true e = p (eqb-true _ _ e)
    go false e = q

pub told_either : {A X : Type 0} (f : Answer A → X) (x : X) (ns : List ℕ) → ((l n : ℕ) → f (short l n) ≡ x) → ((ms : List ℕ) → f (refused ms) ≡ x)
    → f (told ns) ≡ x
told_either f x ns p q = told_cases f x ns (λ _. p (get_or ns 1 0) (get_or ns 2 0)) (q ns)

-- no refusal is an acceptance
module _ {A : Type 0} (ns : List ℕ) where
  pub told_no : (a : A) → told ns ≡ accepted a → ⊥
  unfolding told
  told_no a e = go (eqb (get_or ns 0 0) 1) e
    where
      go : (c : Bool) → ◌≡◌ {A = Answer A} (if c then short (get_or ns 1 0) (get_or ns 2 0) else refused ns) (accepted a) → ⊥
      go true d = let z : ◌≡◌ {A = ℕ} 0 1 = cc in omega arith
      go false d = let z : ◌≡◌ {A = ℕ} 0 1 = cc in omega arith

module _ {A B : Type 0} (ns : List ℕ) where
  -- a refusal is the same of whatever might have been accepted
  pub told_as : (ms : List ℕ) → ◌≡◌ {A = Answer A} (told ns) (refused ms) → ◌≡◌ {A = Answer B} (told ns) (refused ms)
  unfolding told
  told_as ms e = go (eqb (get_or ns 0 0) 1) e
    where
      go : (c : Bool) → ◌≡◌ {A = Answer A} (if c then short (get_or ns 1 0) (get_or ns 2 0) else refused ns) (refused ms)
          → ◌≡◌ {A = Answer B} (if c then short (get_or ns 1 0) (get_or ns 2 0) else refused ns) (refused ms)
      go true d = let z : ◌≡◌ {A = ℕ} 0 1 = cc in absurd (omega arith)
      go false d = let h : ns ≡ ms = cc in ap refused h

  pub told_short : (l n : ℕ) → ◌≡◌ {A = Answer A} (told ns) (short l n) → ◌≡◌ {A = Answer B} (told ns) (short l n)
  unfolding told
  told_short l n e = go (eqb (get_or ns 0 0) 1) e
    where
      go : (c : Bool) → ◌≡◌ {A = Answer A} (if c then short (get_or ns 1 0) (get_or ns 2 0) else refused ns) (short l n)
          → ◌≡◌ {A = Answer B} (if c then short (get_or ns 1 0) (get_or ns 2 0) else refused ns) (short l n)
      go true d =
          let p : get_or ns 1 0 ≡ l = cc in
          let q : get_or ns 2 0 ≡ n = cc in
          ap₂ short p q
      go false d = let z : ◌≡◌ {A = ℕ} 0 1 = cc in absurd (omega arith)

  -- where the tests of a part refuse, those of the whole do so alike
  pub refused_on : (ts us : List Test) (a : A) (b : B) → told ns ≡ first_of ts a → told ns ≡ first_of (ts ++ us) b
  refused_on [] us a b e = absurd (told_no ns a e)
  refused_on (t ∷ ts) us a b e = go t.holds e (λ d. refused_on ts us a b d)
    where
      go : (c : Bool) → told ns ≡ (if c then refused t.says else first_of ts a) → (told ns ≡ first_of ts a → told ns ≡ first_of (ts ++ us) b)
          → told ns ≡ (if c then refused t.says else first_of (ts ++ us) b)
      go true d rest = told_as t.says d
      go false d rest = rest d

  -- tests refuse alike whatever might have been accepted
  pub refused_same : (ts : List Test) (a : A) (b : B) → told ns ≡ first_of ts a → told ns ≡ first_of ts b
  refused_same ts a b e = rw (append-nil ts) at (refused_on ts [] a b e)

  -- what goes on from a refusal is that refusal
  pub told_on : (f : A → Answer B) → and_then (told ns) f ≡ told ns
  unfolding told
  told_on f = go (eqb (get_or ns 0 0) 1)
    where
      go : (c : Bool) → and_then (if c then short (get_or ns 1 0) (get_or ns 2 0) else refused ns) f ≡ (if c then short (get_or ns 1 0) (get_or ns 2 0) else refused ns)
      go true = refl
      go false = refl

-- a judgement in parts: tests behind others that were passed decide
pub judged_passed : (ts : List Test) → accepted tt ≡ all_of ts → Passed ts
judged_passed ts e = (passed ts tt tt e).0

module _ {A : Type 0} (ts us : List Test) (p : Passed ts) (a : A) where
  pub refused_after : {B : Type 0} (b : B) (ns : List ℕ) → told ns ≡ first_of us b → told ns ≡ first_of (ts ++ us) a
  refused_after b ns e = refused_same ns us b a e ∙ sym (passed_on ts us a p)

  pub passed_after : Passed us → accepted a ≡ first_of (ts ++ us) a
  passed_after q = sym (all_passed us a q) ∙ sym (passed_on ts us a p)

-- ---- one answer behind another

module _ {A B : Type 0} (o : Answer A) (f : A → Answer B) where
  -- what the first refuses is refused, and behind what it accepts the second decides
  pub refused_then : (ns : List ℕ) → told ns ≡ o → told ns ≡ and_then o f
  refused_then ns e = sym (told_on ns f) ∙ ap (λ (x : Answer A). and_then x f) e

  pub accepted_then : (a : A) → accepted a ≡ o → f a ≡ and_then o f
  accepted_then a e = ap (λ (x : Answer A). and_then x f) e

-- what both accept was accepted by each
pub record Went {A B : Type 0} (o : Answer A) (f : A → Answer B) (b : B) : Type 0 where
  pub mid : A
  pub first : accepted mid ≡ o
  pub second : accepted b ≡ f mid

pub went : {A B : Type 0} (o : Answer A) (f : A → Answer B) (b : B) → accepted b ≡ and_then o f → Went o f b
went (accepted a) f b e = record { mid = a; first = refl; second = e }
went (short l n) f b e = let z : ◌≡◌ {A = ℕ} 0 1 = cc in absurd (let x : ⊥ = omega arith in x)
went (refused ns) f b e = let z : ◌≡◌ {A = ℕ} 0 1 = cc in absurd (let x : ⊥ = omega arith in x)

-- tests behind tests are one list of tests
pub then_tests : {A B : Type 0} (ts us : List Test) (a : A) (b : B) (f : A → Answer B) → f a ≡ first_of us b → and_then (first_of ts a) f ≡ first_of (ts ++ us) b
then_tests [] us a b f e = e
then_tests {A} {B} (t ∷ ts) us a b f e = go t.holds (then_tests ts us a b f e)
  where
    go : (c : Bool) → and_then (first_of ts a) f ≡ first_of (ts ++ us) b
        → and_then (if c then refused t.says else first_of ts a) f ≡ (if c then refused t.says else first_of (ts ++ us) b)
    go true r = refl
    go false r = r

-- ---- the buffer at exit

-- a refused write changes no byte
pub told_leaves : {A : Type 0} (ns : List ℕ) (o : Answer A) (bytes : A → List ℕ) (s : List ℕ) → told ns ≡ o → s ≡ leaves o bytes s
told_leaves {A} ns o bytes s e =
    sym (told_either (λ (x : Answer A). leaves x bytes s) s ns (λ l n. refl) (λ ms. refl)) ∙ ap (λ (x : Answer A). leaves x bytes s) e

-- an accepted one has its bytes in front
module _ {A : Type 0} (o : Answer A) (bytes : A → List ℕ) (s : List ℕ) (a : A) (e : accepted a ≡ o) where
  pub accepted_leaves : bytes a ++ drop (length (bytes a)) s ≡ leaves o bytes s
  accepted_leaves = ap (λ (x : Answer A). leaves x bytes s) e

  pub sets_leaves : length (bytes a) ≤ length s → sets s 0 (bytes a) ≡ leaves o bytes s
  sets_leaves l =
      let k : 0 + length (bytes a) ≤ length s = omega arith in
      sets-eq (bytes a) s 0 k ∙ ap (λ (n : ℕ). bytes a ++ drop n s) (zero-add (length (bytes a))) ∙ accepted_leaves
