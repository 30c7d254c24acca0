-- However a stream is cut: repeated calls with its fragments hear what the stream gives, a byte at a time, and that does not know of fragments.
-- Assumes nothing.
use Prim.Native.Nat.{ℕ, zero, suc, ◌<◌}
use mathlib.Core.Path.{◌≡◌, refl, sym, ap, ◌∙◌}
use mathlib.Core.List.{List, [], ◌∷◌, ◌++◌}
use native.Mathlib.Omega.{arith}
use lib.ListN.{length, drop, length-append}
use Rattle.fields.specs.Answer.{Answer, accepted, short, refused}
use Rattle.nak.specs.declared.Nak.{Nak}
use Rattle.nak.specs.Archive.{end_to_end}
use Rattle.receiver.specs.declared.Receiver.{Receiver}
use Rattle.receiver.specs.Receiving.{fresh, status, put, begun, Outcomes, more, nak, refusal, Call, one_more, call}
use Rattle.receiver.specs.Demands.{shown, Heard, and_before, go_on, session, Enough, HoweverCut}
use Rattle.receiver.proofs.Reading.{empty_waits}
use Rattle.receiver.proofs.Calls.{call_nak, call_refused, call_none, call_one}

-- ---- a stream, a byte at a time

abbrev pub by_status : Answer Nak → Receiver → (Receiver → Heard) → Heard
by_status (accepted n) r next = and_before (shown n (begun r).window) (next (begun r))
by_status (short l n) r next = next r
by_status (refused ns) r next = record { naks = []; ends = refusal ns; leaves = r }

abbrev pub stream : Receiver → List ℕ → Heard
stream r [] = record { naks = []; ends = more; leaves = r }
stream r (b ∷ bs) = by_status (status (put r b)) (put r b) (λ q. stream q bs)

-- ---- the states between calls that are not refused

pub record Waiting (r : Receiver) : Type 0 where
  pub found : ℕ
  pub need : ℕ
  pub says : status r ≡ short found need

pub begun_waits : (r : Receiver) → Waiting (begun r)
unfolding status begun
begun_waits r = record { found = 0; need = 4; says = empty_waits }

pub fresh_waits : Waiting fresh
unfolding status fresh
fresh_waits = record { found = 0; need = 4; says = empty_waits }

-- ---- a call with the fragment f, behind which g follows

abbrev Goes : Outcomes → Receiver → List ℕ → List ℕ → Call → Type 0
Goes more r f g c = (stream r (f ++ g) ≡ stream c.leaves g) × Waiting c.leaves
Goes (nak n) r f g c =
    (stream r (f ++ g) ≡ and_before (shown n c.leaves.window) (stream c.leaves (drop c.taken f ++ g))) × Waiting c.leaves ×
    (length (drop c.taken f) < length f)
Goes (refusal ns) r f g c = stream r (f ++ g) ≡ record { naks = []; ends = refusal ns; leaves = c.leaves }

-- one byte before it
one_before : (o : Outcomes) (r q : Receiver) (b : ℕ) (bs g : List ℕ) (c : Call) → stream r (b ∷ bs ++ g) ≡ stream q (bs ++ g) → Goes o q bs g c
    → Goes o r (b ∷ bs) g (one_more c)
one_before more r q b bs g c e h = (e ∙ h.0, h.1)
one_before (nak n) r q b bs g c e h = (e ∙ h.0, h.1, omega (arith, h.2))
one_before (refusal ns) r q b bs g c e h = e ∙ h

follows : (f : List ℕ) (r : Receiver) (g : List ℕ) → Waiting r → Goes (call r f).gives r f g (call r f)
follows [] r g w = rw (call_none r w.found w.need w.says) (refl, w)
follows (b ∷ bs) r g w =
    rw (call_one r b bs w.found w.need w.says)
    (go (status (put r b)) refl (λ v. follows bs (put r b) g v))
  where
    q : Receiver
    q = put r b

    go : (o : Answer Nak) → status q ≡ o → (Waiting q → Goes (call q bs).gives q bs g (call q bs)) → Goes (call q bs).gives r (b ∷ bs) g (one_more (call q bs))
    go (accepted n) e rest = rw (call_nak q bs n e, e) (refl, begun_waits q, omega arith)
    go (short l n) e rest = one_before (call q bs).gives r q b bs g (call q bs) (rw e) (rest record { found = l; need = n; says = e })
    go (refused ns) e rest = rw (call_refused q bs ns e, e)

-- ---- repeated calls

pub hears : (rounds : ℕ) (r : Receiver) (fs : List (List ℕ)) → Waiting r → Enough rounds fs → session rounds r fs ≡ stream r (end_to_end fs)
hears zero r fs w h = absurd (let b : ⊥ = omega arith in b)
hears (suc rounds) r [] w h = refl
hears (suc rounds) r (f ∷ fs) w h = go (call r f).gives (follows f r (end_to_end fs) w) (λ q gs v k. hears rounds q gs v k)
  where
    c : Call
    c = call r f

    go : (o : Outcomes) → Goes o r f (end_to_end fs) c
        → ((q : Receiver) (gs : List (List ℕ)) → Waiting q → Enough rounds gs → session rounds q gs ≡ stream q (end_to_end gs))
        → go_on o c f fs (session rounds) ≡ stream r (f ++ end_to_end fs)
    go more k again = again c.leaves fs k.1 (omega (arith, length-append f (end_to_end fs))) ∙ sym k.0
    go (nak n) k again =
        ap (and_before (shown n c.leaves.window))
        (again c.leaves (drop c.taken f ∷ fs) k.1 (omega (arith, k.2, length-append f (end_to_end fs), length-append (drop c.taken f) (end_to_end fs))))
        ∙ sym k.0
    go (refusal ns) k again = sym k

pub however_cut : HoweverCut
however_cut fs gs m n e h k = hears m fresh fs fresh_waits h ∙ ap (stream fresh) e ∙ sym (hears n fresh gs fresh_waits k)
