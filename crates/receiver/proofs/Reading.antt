-- Reading from the window: in stages, so that demand 3 holds, no need is above the window and no refusal is 1; and as the NAK's reading with its needs capped.
-- Assumes nothing.
use Prim.Native.Nat.{ℕ, ◌≤◌, ◌<◌}
use mathlib.Core.Path.{◌≡◌, refl, sym, ap, subst, ◌∙◌}
use mathlib.Core.Bool.{Bool, true, false}
use mathlib.Core.List.{List, [], ◌∷◌}
use native.Mathlib.Omega.{arith}
use lib.Dec.{ltb}
use lib.ListN.{length, get_or}
use borrow.Author.Tests.{ltb-true, ltb-false, le-ltb}
use Rattle.std.specs.Prelude.{if◌then◌else◌}
use Rattle.fields.specs.Answer.{Answer, accepted, short, refused, and_then}
use Rattle.fields.specs.Staged.{Staged, run, ◌>>=◌, ◌>>◌, test}
use Rattle.fields.specs.Demand3.{AtMost}
use Rattle.fields.proofs.Judging.{told_is_short}
use Rattle.fields.proofs.Staged.{run_bind, accepted_bind, at_most_bind, demand3}
use Rattle.fields.proofs.Waiting.{Asks, asks_bind, Said, asks_said}
use Rattle.header.specs.declared.PduHeader.{PduHeader}
use Rattle.header.specs.Header.{pdu_length}
use Rattle.header.specs.Reading.{reading_header}
use Rattle.header.proofs.Reading.{short_4, header_two}
use Rattle.header.proofs.Behind.{header_asks}
use Rattle.nak.specs.declared.Nak.{Nak}
use Rattle.nak.specs.Reading.{reading_nak}
use Rattle.nak.proofs.Streams.{nak_behind, headed_nak, nak_two, nak_asks, nak_short}
use Rattle.receiver.specs.Receiving.{window_length, above_window, receiving}
use Rattle.receiver.specs.Within.{capped}
use Rattle.receiver.specs.Demands.{ReceivingDemand3}

-- ---- in stages: the header, 22, and the rest of a NAK behind its header

abbrev behind : PduHeader → Staged Nak
behind h = test (above_window h) >> nak_behind h

abbrev pub in_stages : Staged Nak
in_stages = reading_header >>= behind

pub in_stages_lem : (s : List ℕ) → run receiving s ≡ run in_stages s
unfolding receiving
in_stages_lem s = run_bind reading_header _ s ∙ go (run reading_header s) refl ∙ sym (run_bind reading_header behind s)
  where
    go : (o : Answer PduHeader) → run reading_header s ≡ o → and_then o (λ h. run (test (above_window h) >> reading_nak) s) ≡ and_then o (λ h. run (behind h) s)
    go (accepted h) e =
        ap (λ (x : Answer Nak). if ltb window_length (pdu_length h) then refused (22 ∷ []) else x)
        (sym (accepted_bind reading_header nak_behind s h (sym e) ∙ headed_nak s))
    go (short l n) e = refl
    go (refused ns) e = refl

-- ---- demand 3

pub stages_four : AtMost in_stages 4
stages_four = at_most_bind reading_header behind 2 2 header_two nak_two

pub receiving_demand3 : ReceivingDemand3
receiving_demand3 = demand3 (run receiving) 4 in_stages stages_four in_stages_lem

-- without a byte it waits for 4
pub empty_waits : run receiving [] ≡ short 0 4
empty_waits =
    in_stages_lem [] ∙ run_bind reading_header behind []
    ∙ ap (λ (o : Answer PduHeader). and_then o (λ h. run (behind h) [])) (sym (short_4 [] (omega arith)) ∙ told_is_short 0 4)

-- ---- no need is above the window, and no refusal is 1

header_ask : Asks window_length reading_header
header_ask = header_asks window_length (omega arith)

stages_ask : Asks window_length in_stages
stages_ask = asks_bind window_length reading_header behind header_ask (λ h. (λ e. omega arith, λ e. nak_asks window_length h (ltb-false _ _ e) (omega arith)))

said : (s : List ℕ) → Said window_length (run receiving s)
said s = subst (Said window_length) (sym (in_stages_lem s)) (asks_said window_length in_stages s stages_ask)

pub needs_in_window : (s : List ℕ) (l n : ℕ) → run receiving s ≡ short l n → n ≤ window_length
needs_in_window s l n e = subst (Said window_length) e (said s)

pub refused_not_one : (s ns : List ℕ) → run receiving s ≡ refused ns → get_or ns 0 0 ≡ 1 → ⊥
refused_not_one s ns e = subst (Said window_length) e (said s)

-- ---- the reading with 22 is the NAK's reading, capped

capped_same : {A : Type 0} (o : Answer A) → Said window_length o → o ≡ capped o
capped_same (accepted a) k = refl
capped_same (short l n) k = rw (le-ltb _ _ k)
capped_same (refused ns) k = refl

pub capped_reading : (s : List ℕ) → length s ≤ window_length → run receiving s ≡ capped (run reading_nak s)
capped_reading s k =
    in_stages_lem s
    ∙ run_bind reading_header behind s
    ∙ go (run reading_header s) (asks_said window_length reading_header s header_ask)
    ∙ ap capped (sym (run_bind reading_header nak_behind s) ∙ headed_nak s)
  where
    by : (h : PduHeader) (c : Bool) → ltb window_length (pdu_length h) ≡ c → (if c then refused (22 ∷ []) else run (nak_behind h) s) ≡ capped (run (nak_behind h) s)
    by h true e =
        let q : window_length < pdu_length h = ltb-true window_length (pdu_length h) e in
        sym (ap capped (nak_short h s (omega (arith, k))) ∙ rw e)
    by h false e = capped_same (run (nak_behind h) s) (asks_said window_length (nak_behind h) s (nak_asks window_length h (ltb-false _ _ e) (omega arith)))

    go : (o : Answer PduHeader) → Said window_length o → and_then o (λ h. run (behind h) s) ≡ capped (and_then o (λ h. run (nak_behind h) s))
    go (accepted h) p = by h (ltb window_length (pdu_length h)) refl
    go (short l n) p = capped_same (short l n) p
    go (refused ns) p = refl
