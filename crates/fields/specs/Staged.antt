-- Readers in stages: a stage needs a number of bytes and sees those alone, tests, or accepts. A reader's definition is its stages, in the order of document 01's sentence.
use Rattle.std.specs.Prelude.{ℕ, Bool, List, [], ◌∷◌, ltb, length, take, if◌then◌else◌}
use Rattle.fields.specs.Answer.{Answer, accepted, short, refused, Test}

infixl 20 ◌>>=◌
infixl 20 ◌>>◌
pub data Staged (A : Type 0) : Type 0 where
  accept : A → Staged A
  refuse_if : Bool → List ℕ → Staged A → Staged A
  need : ℕ → (List ℕ → Staged A) → Staged A

-- the reading of s: where a stage needs more bytes than there are, refusal 1 with their number and the need
abbrev pub run : {A : Type 0} → Staged A → List ℕ → Answer A
run (accept a) s = accepted a
run (refuse_if c ns r) s = if c then refused ns else run r s
run (need n next) s = if ltb (length s) n then short (length s) n else run (next (take n s)) s

-- one reading, and then another that goes on from what it accepted
abbrev pub ◌>>=◌ : {A B : Type 0} → Staged A → (A → Staged B) → Staged B
◌>>=◌ (accept a) f = f a
◌>>=◌ (refuse_if c ns r) f = refuse_if c ns (r >>= f)
◌>>=◌ (need n next) f = need n (λ b. next b >>= f)

abbrev pub ◌>>◌ : {A B : Type 0} → Staged A → Staged B → Staged B
◌>>◌ r q = r >>= (λ _. q)

-- the first n bytes
abbrev pub bytes : ℕ → Staged (List ℕ)
bytes n = need n accept

-- the refusal of a test that holds
abbrev pub test : Test → Staged (Unit {0})
test t = refuse_if t.holds t.says (accept tt)

-- the refusal of the first test that holds
abbrev pub tests : List Test → Staged (Unit {0})
tests [] = accept tt
tests (t ∷ ts) = test t >> tests ts
