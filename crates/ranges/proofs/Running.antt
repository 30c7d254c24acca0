-- A run over a log: one entry and then the rest, however many entries are allowed beyond those that there are.
-- Assumes nothing.
use Prim.Native.Nat.{ℕ, zero, suc, ◌+◌, ◌-◌, ◌≤◌, ◌<◌}
use mathlib.Core.Path.{◌≡◌, refl, sym, ap, ◌∙◌}
use mathlib.Core.Bool.{Bool, true, false}
use mathlib.Core.List.{List, [], ◌∷◌}
use mathlib.Core.Logic.{◌⊎◌, inl, inr}
use native.Mathlib.Omega.{arith}
use lib.ListN.{length, drop, length-drop}
use lib.Seq.{drop-drop}
use borrow.Author.Tests.{eq-eqb, ne_eqb}
use Rattle.std.specs.Prelude.{if◌then◌else◌, Result, Ok, Err, MatchResult}
use Rattle.fields.specs.Answer.{Answer, accepted, short, refused, told, and_then}
use Rattle.fields.proofs.Judging.{told_no, told_as, told_short, went, same_accepted}
use Rattle.tlv.specs.declared.Form.TheVariants.{LongTlv}
use Rattle.tlv.specs.declared.Field.{Field}
use Rattle.tlv.specs.declared.Cut.{Cut}
use Rattle.tlv.specs.Reading.{field_in}
use Rattle.tlv.proofs.Reading.{is_field, field_inside}
use Rattle.ranges.specs.Owing.{Entry, State, judging}
use Rattle.ranges.specs.Memory.{state_in, is_state, memory_of}
use Rattle.ranges.specs.Log.{entry_in, reading_entry, entry_size, entering, left_by, entry_taken, entry_memory, Ran, go_on, run_for, running}
use Rattle.ranges.proofs.Tests.{eq?}

-- ---- an entry that was taken

-- was read, from a memory that holds a state, and then judged
pub record Took (at : ℕ) (s m : List ℕ) (t : State) : Type 0 where
  pub state : is_state m ≡ true
  pub entry : Entry
  pub read : accepted entry ≡ reading_entry at s
  pub judged : accepted t ≡ judging (state_in m) at entry

pub took : (at : ℕ) (s m : List ℕ) (t : State) → entering at s m ≡ accepted t → Took at s m t
unfolding entering
took at s m t e = go (is_state m) refl e
  where
    go : (c : Bool) → is_state m ≡ c → (if c then and_then (reading_entry at s) (judging (state_in m) at) else refused (23 ∷ [])) ≡ accepted t → Took at s m t
    go true k q =
        let w = went (reading_entry at s) (judging (state_in m) at) t (sym q) in record { state = k; entry = w.mid; read = w.first; judged = w.second }
    go false k q = absurd (let z : ◌≡◌ {A = ℕ} 0 1 = cc in let b : ⊥ = omega arith in b)

-- and one that was read is whole
pub read_whole : (at : ℕ) (s : List ℕ) (e : Entry) → accepted e ≡ reading_entry at s → (entry_size s ≤ length s) × (0 < entry_size s)
unfolding reading_entry
read_whole at s e k = go (field_in LongTlv s 0) refl k
  where
    go : (r : Result Field Cut) → field_in LongTlv s 0 ≡ r → accepted e ≡ entry_in at s r → (entry_size s ≤ length s) × (0 < entry_size s)
    go (Ok f) p q =
        let i = field_inside LongTlv s 0 f p in
        let stop : entry_size s ≡ f.stop = ap (λ (x : Field). x.stop) (is_field LongTlv s 0 f p).1 in
        ((is_field LongTlv s 0 f p).0, omega (arith, i.starts, i.stops))
    go (Err cut) p q = absurd (let z : ◌≡◌ {A = ℕ} 0 1 = cc in let b : ⊥ = omega arith in b)

pub taken_whole : (at : ℕ) (s m : List ℕ) (t : State) → entering at s m ≡ accepted t → (entry_size s ≤ length s) × (0 < entry_size s)
taken_whole at s m t e = let k = took at s m t e in read_whole at s k.entry k.read

-- ---- one entry, and the rest

abbrev pub ended : ℕ → List ℕ → Ran
ended at m = record { stop = (accepted tt, at); memory = m }

-- what a run goes on with matters where the entry is taken
pub go_on_like : (o : Answer State) (at : ℕ) (m : List ℕ) (f g : State → Ran) → ((t : State) → o ≡ accepted t → f t ≡ g t) → go_on o at m f ≡ go_on o at m g
go_on_like (accepted t) at m f g h = h t refl
go_on_like (short l n) at m f g h = refl
go_on_like (refused ns) at m f g h = refl

pub for_no_entry : (at : ℕ) (s m : List ℕ) → run_for zero at s m ≡ ended at m
unfolding run_for
for_no_entry at s m = refl

pub for_none : (n at : ℕ) (s m : List ℕ) → length s ≡ 0 → run_for n at s m ≡ ended at m
unfolding run_for
for_none zero at s m e = refl
for_none (suc n) at s m e = rw (eq-eqb (length s) 0 e)

pub for_some : (n at : ℕ) (s m : List ℕ) → (length s ≡ 0 → ⊥)
    → run_for (suc n) at s m ≡ go_on (entering at s m) at m (λ t. run_for n (at + entry_size s) (drop (entry_size s) s) (memory_of t))
unfolding run_for
for_some n at s m e = rw (ne_eqb (length s) 0 e)

-- how many entries are allowed does not matter, once there are as many as bytes
for_enough : (j k at : ℕ) (s m : List ℕ) → length s ≤ j → length s ≤ k → run_for j at s m ≡ run_for k at s m
for_enough zero k at s m h l = for_none zero at s m (omega arith) ∙ sym (for_none k at s m (omega arith))
for_enough (suc j) zero at s m h l = for_none (suc j) at s m (omega arith) ∙ sym (for_none zero at s m (omega arith))
for_enough (suc j) (suc k) at s m h l = go (eq? (length s) 0) (λ (t : State). for_enough j k (at + entry_size s) (drop (entry_size s) s) (memory_of t))
  where
    go : (length s ≡ 0) ⊎ (length s ≡ 0 → ⊥)
        → ((t : State) → length (drop (entry_size s) s) ≤ j → length (drop (entry_size s) s) ≤ k
        → run_for j (at + entry_size s) (drop (entry_size s) s) (memory_of t) ≡ run_for k (at + entry_size s) (drop (entry_size s) s) (memory_of t))
        → run_for (suc j) at s m ≡ run_for (suc k) at s m
    go (inl e) more = for_none (suc j) at s m e ∙ sym (for_none (suc k) at s m e)
    go (inr e) more =
        for_some j at s m e
        ∙ go_on_like (entering at s m) at m (λ t. run_for j (at + entry_size s) (drop (entry_size s) s) (memory_of t))
        (λ t. run_for k (at + entry_size s) (drop (entry_size s) s) (memory_of t))
        (λ t q. let w = taken_whole at s m t q in more t (omega (arith, w.0, w.1, length-drop (entry_size s) s)) (omega (arith, w.0, w.1, length-drop (entry_size s) s)))
        ∙ sym (for_some k at s m e)

pub running_none : (at : ℕ) (s m : List ℕ) → length s ≡ 0 → running at s m ≡ ended at m
unfolding running
running_none at s m e = for_none (length s) at s m e

pub running_some : (at : ℕ) (s m : List ℕ) → (length s ≡ 0 → ⊥)
    → running at s m ≡ go_on (entering at s m) at m (λ t. running (at + entry_size s) (drop (entry_size s) s) (memory_of t))
unfolding running
running_some at s m e =
    for_enough (length s) (suc (length s)) at s m (omega arith) (omega arith)
    ∙ for_some (length s) at s m e
    ∙ go_on_like (entering at s m) at m (λ t. run_for (length s) (at + entry_size s) (drop (entry_size s) s) (memory_of t))
    (λ t. run_for (length (drop (entry_size s) s)) (at + entry_size s) (drop (entry_size s) s) (memory_of t))
    (λ t q. for_enough (length s) (length (drop (entry_size s) s)) (at + entry_size s) (drop (entry_size s) s) (memory_of t) (omega (arith, length-drop (entry_size s) s)) (omega arith))

-- ---- behind `map_err(..)?`

module _ {T E : Type 0} (D : Type 0) where
  pub mapped_ok : (r : Result T E) (Q : E → Type 0) (x : T) → MatchResult r (λ y. ◌≡◌ {A = Result T D} (Ok x) (Ok y)) Q → ((e : E) → Q e → ⊥) → Ok x ≡ r
  mapped_ok (Ok y) Q x p n = ap (λ y. Ok y) (cc)
  mapped_ok (Err e) Q x p n = absurd (n e p)

  pub mapped_err : (r : Result T E) (Q : E → Type 0) (d : D) → MatchResult r (λ y. ◌≡◌ {A = Result T D} (Err d) (Ok y)) Q → (e : E) × (Err e ≡ r) × Q e
  mapped_err (Ok y) Q d p = absurd (cc)
  mapped_err (Err e) Q d p = (e, refl, p)

-- ---- the loop

module _ (log : List ℕ) (from at : ℕ) (m m₀ : List ℕ) (inv : running at (drop at log) m ≡ running from (drop from log) m₀) where
  stands : (r : Ran) → running at (drop at log) m ≡ r
      → (r.stop ≡ (running from (drop from log) m₀).stop) × (r.memory ≡ (running from (drop from log) m₀).memory)
  stands r e = (ap (λ (x : Ran). x.stop) (sym e ∙ inv), ap (λ (x : Ran). x.memory) (sym e ∙ inv))

  pub run_end : length log ≤ at
      → (◌≡◌ {A = Answer (Unit {0}) × ℕ} (accepted tt, at) (running from (drop from log) m₀).stop) × (m ≡ (running from (drop from log) m₀).memory)
  run_end h = stands (ended at m) (running_none at (drop at log) m (omega (arith, length-drop at log)))

  module _ (h : at < length log) (s : List ℕ) (es : s ≡ drop at log) where
    some_left : length (drop at log) ≡ 0 → ⊥
    some_left e = omega (arith, length-drop at log)

    step : running at (drop at log) m ≡ go_on (entering at s m) at m (λ t. running (at + entry_size s) (drop (entry_size s) s) (memory_of t))
    step =
        running_some at (drop at log) m some_left
        ∙ ap (λ (x : List ℕ). go_on (entering at x m) at m (λ t. running (at + entry_size x) (drop (entry_size x) x) (memory_of t))) (sym es)

    module _ (m' : List ℕ) (em : m' ≡ entry_memory at s m) where
      pub run_refused : (ns : List ℕ) → told ns ≡ entry_taken at s m
          → (◌≡◌ {A = Answer (Unit {0}) × ℕ} (told ns, at) (running from (drop from log) m₀).stop) × (m' ≡ (running from (drop from log) m₀).memory)
      unfolding entry_taken entry_memory
      run_refused ns k = go (entering at s m) refl k em
        where
          go : (o : Answer State) → entering at s m ≡ o → told ns ≡ and_then o (λ _. accepted (entry_size s)) → m' ≡ left_by o m
              → (◌≡◌ {A = Answer (Unit {0}) × ℕ} (told ns, at) (running from (drop from log) m₀).stop) × (m' ≡ (running from (drop from log) m₀).memory)
          go (accepted t) p q l = absurd (told_no ns (entry_size s) q)
          go (short a n) p q l =
              let r = stands (record { stop = (short a n, at); memory = m })
              (step ∙ ap (λ (x : Answer State). go_on x at m (λ t. running (at + entry_size s) (drop (entry_size s) s) (memory_of t))) p) in
              (ap (λ (x : Answer (Unit {0})). (x, at)) (told_short ns a n q) ∙ r.0, l ∙ r.1)
          go (refused ms) p q l =
              let r = stands (record { stop = (refused ms, at); memory = m })
              (step ∙ ap (λ (x : Answer State). go_on x at m (λ t. running (at + entry_size s) (drop (entry_size s) s) (memory_of t))) p) in
              (ap (λ (x : Answer (Unit {0})). (x, at)) (told_as ns ms q) ∙ r.0, l ∙ r.1)

      pub run_turn : (size : ℕ) → accepted size ≡ entry_taken at s m
          → (running (at + size) (drop (at + size) log) m' ≡ running from (drop from log) m₀) × (at + size ≤ length log) × (0 < size)
      unfolding entry_taken entry_memory
      run_turn size k = go (entering at s m) refl k em
        where
          go : (o : Answer State) → entering at s m ≡ o → accepted size ≡ and_then o (λ _. accepted (entry_size s)) → m' ≡ left_by o m
              → (running (at + size) (drop (at + size) log) m' ≡ running from (drop from log) m₀) × (at + size ≤ length log) × (0 < size)
          go (accepted t) p q l =
              let z : size ≡ entry_size s = same_accepted size (entry_size s) q in
              let w = taken_whole at s m t p in
              let n : length s ≡ length log - at = ap length es ∙ length-drop at log in
              let d : drop (entry_size s) s ≡ drop (at + size) log = ap (drop (entry_size s)) es
              ∙ drop-drop (entry_size s) at log
              ∙ ap (λ (x : ℕ). drop (at + x) log) (sym z) in
              let r : running at (drop at log) m ≡ running (at + entry_size s) (drop (entry_size s) s) (memory_of t) = step
              ∙ ap (λ (x : Answer State). go_on x at m (λ t. running (at + entry_size s) (drop (entry_size s) s) (memory_of t))) p in (
                (rw (z, l) (ap (λ (x : List ℕ). running (at + entry_size s) x (memory_of t)) (sym (rw z at d)) ∙ sym r ∙ inv)),
                omega (arith, w.0),
                omega (arith, w.1),
              )
          go (short a n) p q l = absurd (let z : ◌≡◌ {A = ℕ} 0 1 = cc in let b : ⊥ = omega arith in b)
          go (refused ms) p q l = absurd (let z : ◌≡◌ {A = ℕ} 0 1 = cc in let b : ⊥ = omega arith in b)
