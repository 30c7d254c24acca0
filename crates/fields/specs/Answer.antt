-- Answers in document 01's terms: what is accepted, or a refusal's number and values. 'The first that holds is the answer.'
use Rattle.std.specs.Prelude.{ℕ, Bool, ◌≡◌, List, [], ◌∷◌, ◌++◌, eqb, length, get_or, drop, if◌then◌else◌, Result, Ok, Err}
use Rattle.fields.specs.declared.refusal.Refusal.{Refusal}
use Rattle.fields.specs.Refusal.{paper}

-- `short` is refusal 1, with the length and the needed length: it stands by itself because demand 3 speaks of it
pub data Answer (A : Type 0) : Type 0 where
  accepted : A → Answer A
  short : ℕ → ℕ → Answer A
  refused : List ℕ → Answer A

-- the answer that a refusal's number and values are
unfoldable pub told : {A : Type 0} → List ℕ → Answer A
told ns = if eqb (get_or ns 0 0) 1 then short (get_or ns 1 0) (get_or ns 2 0) else refused ns

-- what the code answers: an `Ok` is accepted, an `Err` is its refusal's number and values
abbrev pub answer_of : {A : Type 0} → Result A Refusal → Answer A
answer_of (Ok a) = accepted a
answer_of (Err r) = told (paper r)

-- 'How much each promise says': the answer leaves one result
abbrev pub OneAnswer : Type 0 → Type 0
OneAnswer A = (a b : Result A Refusal) → answer_of a ≡ answer_of b → a ≡ b

-- one answer, and then another that goes on from what was accepted
abbrev pub and_then : {A B : Type 0} → Answer A → (A → Answer B) → Answer B
and_then (accepted a) f = f a
and_then (short l n) f = short l n
and_then (refused ns) f = refused ns

-- a test, and the refusal where it holds; never refusal 1, which only a stage that lacks bytes gives
pub record Test : Type 0 where
  pub holds : Bool
  pub says : List ℕ

abbrev pub when : Bool → List ℕ → Test
when c ns = record { holds = c; says = ns }

-- the first test that holds is the answer; if none holds, a is accepted
abbrev pub first_of : {A : Type 0} → List Test → A → Answer A
first_of [] a = accepted a
first_of (t ∷ ts) a = if t.holds then refused t.says else first_of ts a

-- a judgement that hands back nothing: whether none of the tests holds
abbrev pub all_of : List Test → Answer (Unit {0})
all_of ts = first_of ts tt

-- the lent buffer at exit of a write: the bytes of what was accepted in front, the rest as it was; a refusal changes no byte
abbrev pub leaves : {A : Type 0} → Answer A → (A → List ℕ) → List ℕ → List ℕ
leaves (accepted a) bytes s = bytes a ++ drop (length (bytes a)) s
leaves (short l n) bytes s = s
leaves (refused ns) bytes s = s
