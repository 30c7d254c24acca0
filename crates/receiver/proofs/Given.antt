-- What is given: a NAK stands in the window still, a refusal is never 1 and stays, and each promise leaves one answer.
-- Assumes nothing.
use Prim.Native.Nat.{ℕ, ◌≤◌}
use mathlib.Core.Path.{◌≡◌, refl, sym, ap, subst, ◌∙◌}
use mathlib.Core.Bool.{Bool, true, false}
use mathlib.Core.List.{List, [], ◌∷◌}
use native.Mathlib.Omega.{arith}
use lib.Dec.{ltb}
use lib.ListN.{length, take, drop, length-take, length-set, take-append-drop}
use Rattle.std.specs.Prelude.{if◌then◌else◌, Option, None, Some, Result, Ok, Err}
use Rattle.fields.specs.declared.refusal.Refusal.{Refusal}
use Rattle.fields.specs.Answer.{Answer, accepted, short, refused}
use Rattle.fields.specs.Staged.{run}
use Rattle.fields.specs.Demand3.{Final}
use Rattle.fields.specs.Refusal.{paper}
use Rattle.fields.proofs.OneToOne.{paper_one_to_one}
use Rattle.nak.specs.declared.Nak.{Nak}
use Rattle.nak.specs.Reading.{reading_nak}
use Rattle.nak.proofs.Demands.{nak_demand3}
use Rattle.receiver.specs.declared.Receiver.{Receiver}
use Rattle.receiver.specs.Receiving.{window_length, receiving, status, put, begun, nak, refusal, outcome_of, Call, call}
use Rattle.receiver.specs.Within.{capped}
use Rattle.receiver.specs.Demands.{GivenStands, NeverOne, RefusalStays, OneReceived, OneTaken}
use Rattle.receiver.proofs.Reading.{refused_not_one, capped_reading}
use Rattle.receiver.proofs.Calls.{call_nak, call_refused, call_none, call_one}

-- ---- what is accepted from the window is accepted by the NAK's reading, of the whole window too

capped_accepted : {A : Type 0} (o : Answer A) (a : A) → capped o ≡ accepted a → o ≡ accepted a
capped_accepted (accepted b) a e = e
capped_accepted {A} (short l n) a e = go (ltb window_length n) e
  where
    go : (c : Bool) → ◌≡◌ {A = Answer A} (if c then refused (22 ∷ []) else short l n) (accepted a) → short l n ≡ accepted a
    go true d = cc
    go false d = d
capped_accepted (refused ns) a e = e

pub read_again : (s : List ℕ) (n : Nak) → length s ≤ window_length → run receiving s ≡ accepted n → run reading_nak s ≡ accepted n
read_again s n k e = capped_accepted (run reading_nak s) n (sym (capped_reading s k) ∙ e)

in_window : (r : Receiver) (n : Nak) → length r.window ≡ window_length → status r ≡ accepted n → run reading_nak r.window ≡ accepted n
unfolding status
in_window r n k e =
    let s = take r.filled r.window in
    let a : run reading_nak s ≡ accepted n = read_again s n (omega (arith, length-take r.filled r.window)) e in
    let f : Final (run reading_nak s) = subst Final (sym a) tt in
    ap (run reading_nak) (sym (take-append-drop r.filled r.window)) ∙ nak_demand3.final s (drop r.filled r.window) f ∙ a

abbrev Stands : Call → Type 0
Stands c = (n : Nak) → c.gives ≡ nak n → run reading_nak c.leaves.window ≡ accepted n

module _ (f : List ℕ) (r : Receiver) (k : length r.window ≡ window_length) where
  by_nak : (n : Nak) → status r ≡ accepted n → Stands (call r f)
  unfolding begun
  by_nak n e = rw (call_nak r f n e) (λ m d. let q : n ≡ m = cc in rw (← q) (in_window r n k e))

  by_refusal : (ns : List ℕ) → status r ≡ refused ns → Stands (call r f)
  by_refusal ns e = rw (call_refused r f ns e) (λ m d. cc)

stands : (f : List ℕ) (r : Receiver) → length r.window ≡ window_length → Stands (call r f)
unfolding put
stands [] r k = go (status r) refl
  where
    go : (o : Answer Nak) → status r ≡ o → Stands (call r [])
    go (accepted n) e = by_nak [] r k n e
    go (short l n) e = rw (call_none r l n e) (λ m d. cc)
    go (refused ns) e = by_refusal [] r k ns e
stands (b ∷ bs) r k = go (status r) refl (stands bs (put r b) (length-set r.window r.filled b ∙ k))
  where
    go : (o : Answer Nak) → status r ≡ o → Stands (call (put r b) bs) → Stands (call r (b ∷ bs))
    go (accepted n) e rest = by_nak (b ∷ bs) r k n e
    go (short l n) e rest = rw (call_one r b bs l n e) rest
    go (refused ns) e rest = by_refusal (b ∷ bs) r k ns e

pub given_stands : GivenStands
given_stands r f n k e = stands f r k n e

-- ---- no refusal is 1, and a refusal stays

abbrev Refuses : Receiver → Call → Type 0
Refuses r c = (ns : List ℕ) → c.gives ≡ refusal ns → status c.leaves ≡ refused ns

refuses : (f : List ℕ) (r : Receiver) → Refuses r (call r f)
refuses [] r = go (status r) refl
  where
    go : (o : Answer Nak) → status r ≡ o → Refuses r (call r [])
    go (accepted n) e = rw (call_nak r [] n e) (λ ns d. cc)
    go (short l n) e = rw (call_none r l n e) (λ ns d. cc)
    go (refused ms) e = rw (call_refused r [] ms e) (λ ns d. let q : ms ≡ ns = cc in e ∙ ap refused q)
refuses (b ∷ bs) r = go (status r) refl (refuses bs (put r b))
  where
    go : (o : Answer Nak) → status r ≡ o → Refuses (put r b) (call (put r b) bs) → Refuses r (call r (b ∷ bs))
    go (accepted n) e rest = rw (call_nak r (b ∷ bs) n e) (λ ns d. cc)
    go (short l n) e rest = rw (call_one r b bs l n e) rest
    go (refused ms) e rest = rw (call_refused r (b ∷ bs) ms e) (λ ns d. let q : ms ≡ ns = cc in e ∙ ap refused q)

pub never_one : NeverOne
unfolding status
never_one r f ns e = let q = (call r f).leaves in refused_not_one (take q.filled q.window) ns (refuses f r ns e)

pub refusal_stays : RefusalStays
refusal_stays r f g ns e = call_refused (call r f).leaves g ns (refuses f r ns e)

outcome_one : (a b : Result (Option Nak) Refusal) → outcome_of a ≡ outcome_of b → a ≡ b
outcome_one (Ok None) (Ok None) e = refl
outcome_one (Ok None) (Ok (Some n)) e = cc
outcome_one (Ok None) (Err r) e = cc
outcome_one (Ok (Some n)) (Ok None) e = cc
outcome_one (Ok (Some n)) (Ok (Some m)) e = cc
outcome_one (Ok (Some n)) (Err r) e = cc
outcome_one (Err r) (Ok None) e = cc
outcome_one (Err r) (Ok (Some n)) e = cc
outcome_one (Err r) (Err q) e = let p : paper r ≡ paper q = cc in ap Err (paper_one_to_one r q p)

pub one_received : OneReceived
one_received a b v w e =
    let t = ap (λ (c : Call). c.taken) e in
    let o = outcome_one a.outcome b.outcome (ap (λ (c : Call). c.gives) e) in
    let f = ap (λ (c : Call). c.leaves.filled) e in
    (λ i. record { taken = t i; outcome = o i; filled = f i }, ap (λ (c : Call). c.leaves.window) e)

pub one_taken : OneTaken
one_taken a b e =
    let t = ap (λ (c : Call). c.taken) e in
    let o = outcome_one a.outcome b.outcome (ap (λ (c : Call). c.gives) e) in
    let r = ap (λ (c : Call). c.leaves) e in
    λ i. record { taken = t i; outcome = o i; receiver = r i }
