-- DEMAND 3 of the user, of any reader.
use Rattle.std.specs.Prelude.{ℕ, zero, suc, ◌≤◌, ◌<◌, ◌≡◌, List, [], ◌∷◌, ◌++◌, length}
use Rattle.fields.specs.declared.refusal.Refusal.{Refusal}
use Rattle.fields.specs.declared.refusal.Refusal.TheVariants.{FromSliceTooSmall}
use Rattle.fields.specs.Answer.{Answer, accepted, short, refused}
use Rattle.fields.specs.Staged.{Staged, accept, refuse_if, need}

-- accepted, or refused otherwise than as a short buffer
abbrev pub Final : {A : Type 0} → Answer A → Type 0
Final (accepted a) = Unit {0}
Final (short l n) = ⊥
Final (refused ns) = Unit {0}

-- the first n bytes of a stream
abbrev pub firsts : (ℕ → ℕ) → ℕ → List ℕ
firsts f zero = []
firsts f (suc n) = firsts f n ++ (f n ∷ [])

-- what a receiver does with an answer: refused as short it waits for the named length and tries again
abbrev pub wait : {A : Type 0} → Answer A → (ℕ → ℕ) → ℕ
wait (accepted a) again = 0
wait (short l n) again = suc (again n)
wait (refused ns) again = 0

-- how often a receiver hears that it is short, in at most `rounds` tries, the first with n bytes of the stream f
abbrev pub heard : {A : Type 0} → (List ℕ → Answer A) → (ℕ → ℕ) → ℕ → ℕ → ℕ
heard read f zero n = 0
heard read f (suc rounds) n = wait (read (firsts f n)) (heard read f rounds)

pub record Demand3 {A : Type 0} (read : List ℕ → Answer A) (k : ℕ) : Type 0 where
  -- 'if the reader accepts it, or refuses it otherwise than as a short buffer, every longer buffer that begins with it gets the same answer'
  pub final : (s t : List ℕ) → Final (read s) → read (s ++ t) ≡ read s
  -- 'if it is refused as short, naming a needed length': the refusal says the buffer's length, and the need is above it
  pub below : (s : List ℕ) (l n : ℕ) → read s ≡ short l n → (l ≡ length s) × (l < n)
  -- 'every extension below that length is refused as short with the same need'
  pub waits : (s t : List ℕ) (l n : ℕ) → read s ≡ short l n → length (s ++ t) < n → read (s ++ t) ≡ short (length (s ++ t)) n
  -- 'and none of that length is short with that need'
  pub enough : (s t : List ℕ) (l m n : ℕ) → read s ≡ short l n → length (s ++ t) ≡ n → read (s ++ t) ≡ short m n → ⊥
  -- 'starting empty and waiting for exactly the named length, a receiver hears that refusal at most' k 'times'
  pub few : (f : ℕ → ℕ) (rounds : ℕ) → heard read f rounds 0 ≤ k

-- a reader has at most k needs, whatever the bytes
abbrev pub AtMost : {A : Type 0} → Staged A → ℕ → Type 0
AtMost (accept a) k = Unit {0}
AtMost (refuse_if c ns r) k = AtMost r k
AtMost (need n next) zero = ⊥
AtMost (need n next) (suc k) = (b : List ℕ) → AtMost (next b) k

-- two of the code's own answers, each as `answer` reads it: r to the bytes s, q to the same bytes and t behind them
pub record Readings {A R : Type 0} (read : List ℕ → Answer A) (answer : R → Answer A) (s t : List ℕ) (r q : R) : Type 0 where
  pub first : answer r ≡ read s
  pub longer : answer q ≡ read (s ++ t)

-- the first three parts of them, whose refusals are made by `no`
pub record CodeDemand3 {A R : Type 0} (read : List ℕ → Answer A) (answer : R → Answer A) (no : Refusal → R) : Type 0 where
  pub final : (s t : List ℕ) (r q : R) → Readings read answer s t r q → Final (answer r) → q ≡ r
  pub waits : (s t : List ℕ) (r q : R) (l n : ℕ) → Readings read answer s t r q → r ≡ no (FromSliceTooSmall l n) → length (s ++ t) < n → q ≡ no (FromSliceTooSmall (length (s ++ t)) n)
  pub enough : (s t : List ℕ) (r q : R) (l m n : ℕ) → Readings read answer s t r q → r ≡ no (FromSliceTooSmall l n) → length (s ++ t) ≡ n → q ≡ no (FromSliceTooSmall m n) → ⊥
