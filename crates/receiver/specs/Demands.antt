-- What is proved beyond the promises: 'however the stream is cut, repeated calls until every fragment is used, or one is refused, give the same NAKs, refusal and end state'; that written NAKs are all given; and what the waiting costs.
use Rattle.std.specs.Prelude.{ℕ, zero, suc, ◌+◌, ◌≤◌, ◌<◌, ◌≡◌, List, [], ◌∷◌, map, length, get_or, drop}
use Rattle.fields.specs.Answer.{accepted}
use Rattle.fields.specs.Staged.{run}
use Rattle.fields.specs.Demand3.{Demand3}
use Rattle.nak.specs.declared.Nak.{Nak}
use Rattle.nak.specs.Reading.{reading_nak}
use Rattle.nak.specs.Requests.{area_of, pairs_of}
use Rattle.nak.specs.Demands.{read_as}
use Rattle.nak.specs.Archive.{Contents, Archived, bytes_of, contents_of, end_to_end, archive, Whole}
use Rattle.receiver.specs.declared.Receiver.{Receiver}
use Rattle.receiver.specs.declared.Received.{Received}
use Rattle.receiver.specs.declared.Taken.{Taken}
use Rattle.receiver.specs.Receiving.{window_length, receiving, fresh, Outcomes, more, nak, refusal, Call, call, call_of, taken_of}
use Rattle.receiver.specs.Within.{short_readings}

-- ---- a stream, however it is cut

-- a NAK that is given, and its requests as they are walked in the window then
pub record Given : Type 0 where
  pub nak : Nak
  pub requests : List (ℕ × ℕ)

abbrev pub shown : Nak → List ℕ → Given
shown n s = record { nak = n; requests = pairs_of n.header.file (area_of n s) }

-- what is heard of a stream: its NAKs, how it ends (more wanted, or refused), and the end state
pub record Heard : Type 0 where
  pub naks : List Given
  pub ends : Outcomes
  pub leaves : Receiver

abbrev pub and_before : Given → Heard → Heard
and_before n h = record { naks = n ∷ h.naks; ends = h.ends; leaves = h.leaves }

-- what follows a call with the fragment f: behind a NAK a call with what is left of it, behind 'more wanted' the next fragment, behind a refusal nothing
abbrev pub go_on : Outcomes → Call → List ℕ → List (List ℕ) → (Receiver → List (List ℕ) → Heard) → Heard
go_on more c f fs again = again c.leaves fs
go_on (nak n) c f fs again = and_before (shown n c.leaves.window) (again c.leaves (drop c.taken f ∷ fs))
go_on (refusal ns) c f fs again = record { naks = []; ends = refusal ns; leaves = c.leaves }

-- repeated calls with the fragments of a stream, at most `rounds` of them
abbrev pub session : ℕ → Receiver → List (List ℕ) → Heard
session zero r fs = record { naks = []; ends = more; leaves = r }
session (suc rounds) r [] = record { naks = []; ends = more; leaves = r }
session (suc rounds) r (f ∷ fs) = go_on (call r f).gives (call r f) f fs (session rounds)

-- the stream is its fragments end to end: a call for each of them and one for each byte are enough
abbrev pub Enough : ℕ → List (List ℕ) → Type 0
Enough rounds fs = length fs + length (end_to_end fs) < rounds

abbrev pub HoweverCut : Type 0
HoweverCut = (fs gs : List (List ℕ)) (m n : ℕ) → end_to_end fs ≡ end_to_end gs → Enough m fs → Enough n gs → session m fresh fs ≡ session n fresh gs

-- ---- 'a stream of NAKs laid end to end'

-- these are given, in their order, and the next PDU may begin
pub record AllGiven (ns : List Given) (h : Heard) : Type 0 where
  pub naks : h.naks ≡ ns
  pub ends : h.ends ≡ more
  pub begins : h.leaves.filled ≡ 0

-- a NAK that was written, as C-14 has it, and that the window holds
pub record Written : Type 0 where
  pub nak : Archived
  pub holds : length (bytes_of nak) ≤ window_length

-- the NAK that holds c, as it is given: the header handed back, the scope, and the pairs
abbrev pub asked : Contents → Given
asked c = record { nak = read_as c.header c.start c.end (length c.pairs); requests = c.pairs }

-- written NAKs, laid end to end and cut anywhere, are all given
abbrev pub WrittenAreGiven : Type 0
WrittenAreGiven =
    (ws : List Written) (fs : List (List ℕ)) (m : ℕ) → end_to_end fs ≡ archive (map (λ (w : Written). w.nak) ws) → Enough m fs
    → AllGiven (map (λ (w : Written). asked (contents_of w.nak)) ws) (session m fresh fs)

-- the same of NAKs from anywhere: whole, as C-14 has it, and the window holds their bytes
pub record Pdu : Type 0 where
  pub bytes : List ℕ
  pub whole : Whole bytes
  pub holds : length bytes ≤ window_length

abbrev pub LaidEndToEnd : Type 0
LaidEndToEnd =
    (ps : List Pdu) (fs : List (List ℕ)) (m : ℕ) → end_to_end fs ≡ end_to_end (map (λ (p : Pdu). p.bytes) ps) → Enough m fs
    → AllGiven (map (λ (p : Pdu). shown p.whole.nak p.bytes) ps) (session m fresh fs)

-- ---- what a call gives

-- 'how many bytes it took' are bytes of the fragment
abbrev pub TakenInside : Type 0
TakenInside = (r : Receiver) (f : List ℕ) → (call r f).taken ≤ length f

-- the window that a call leaves still holds the NAK that it gave: read again it is the same, and so its requests are walked there
abbrev pub GivenStands : Type 0
GivenStands = (r : Receiver) (f : List ℕ) (n : Nak) → length r.window ≡ window_length → (call r f).gives ≡ nak n → run reading_nak (call r f).leaves.window ≡ accepted n

-- 'the reader's but 1': no refusal that is given has that number
abbrev pub NeverOne : Type 0
NeverOne = (r : Receiver) (f ns : List ℕ) → (call r f).gives ≡ refusal ns → get_or ns 0 0 ≡ 1 → ⊥

-- 'after a refusal it takes no byte and repeats that refusal'
abbrev pub RefusalStays : Type 0
RefusalStays = (r : Receiver) (f g ns : List ℕ) → (call r f).gives ≡ refusal ns → call (call r f).leaves g ≡ record { taken = 0; gives = refusal ns; leaves = (call r f).leaves }

-- each promise leaves one answer and one window
abbrev pub OneReceived : Type 0
OneReceived = (a b : Received) (v w : List ℕ) → call_of a v ≡ call_of b w → (a ≡ b) × (v ≡ w)

abbrev pub OneTaken : Type 0
OneTaken = (a b : Taken) → taken_of a ≡ taken_of b → a ≡ b

-- ---- what the waiting costs

-- demand 3 of the reading: at most four refusals as short
abbrev pub ReceivingDemand3 : Type 0
ReceivingDemand3 = Demand3 (run receiving) 4

-- at most four readings of a call are short; `receive_in` promises to count `short_readings`
abbrev pub FewShorts : Type 0
FewShorts = (r : Receiver) (f : List ℕ) → length r.window ≡ window_length → short_readings r f ≤ 4

-- how many are short in calls with fragments, until one gives a NAK or a refusal
abbrev pub and_on : Outcomes → ℕ → ℕ
and_on more k = k
and_on (nak n) k = 0
and_on (refusal ns) k = 0

abbrev pub all_shorts : Receiver → List (List ℕ) → ℕ
all_shorts r [] = 0
all_shorts r (f ∷ fs) = short_readings r f + and_on (call r f).gives (all_shorts (call r f).leaves fs)

-- at most four a PDU, and one more for each further call that it comes in
abbrev pub FewAPdu : Type 0
FewAPdu = (r : Receiver) (f : List ℕ) (fs : List (List ℕ)) → length r.window ≡ window_length → all_shorts r (f ∷ fs) ≤ 4 + length fs
