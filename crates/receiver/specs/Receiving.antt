-- A receiver 'that takes fragments of a stream of NAKs laid end to end' (document 02, C-07): its state, what the bytes in its window say, and a call with a fragment, a byte at a time.
use Rattle.std.specs.Prelude.{ℕ, suc, List, [], ◌∷◌, ltb, take, set, replicate, Option, None, Some, Result, Ok, Err}
use Rattle.fields.specs.declared.refusal.Refusal.{Refusal}
use Rattle.fields.specs.Answer.{Answer, accepted, short, refused, Test, when}
use Rattle.fields.specs.Refusal.{paper}
use Rattle.fields.specs.Staged.{Staged, ◌>>=◌, ◌>>◌, run, test}
use Rattle.header.specs.declared.PduHeader.{PduHeader}
use Rattle.header.specs.Header.{pdu_length}
use Rattle.header.specs.Reading.{reading_header}
use Rattle.nak.specs.declared.Nak.{Nak}
use Rattle.nak.specs.Reading.{reading_nak}
use Rattle.receiver.specs.declared.Receiver.{Receiver}
use Rattle.receiver.specs.declared.Received.{Received}
use Rattle.receiver.specs.declared.Taken.{Taken}

-- 'a window of 2,048 bytes'
abbrev pub window_length : ℕ
window_length = 2048

-- ---- reading from the window

-- 22: 'PDU above 2,048 bytes'
abbrev pub above_window : PduHeader → Test
above_window h = when (ltb window_length (pdu_length h)) (22 ∷ [])

-- 22 'once the header is complete and before more is waited for'; else a NAK, as document 01 reads it
unfoldable pub receiving : Staged Nak
receiving = do
  h ← reading_header
  test (above_window h)
  reading_nak

-- ---- the state: the window, and how many bytes of the next PDU are in it

-- the fresh state: a window 'that starts as zeros'
unfoldable pub fresh : Receiver
fresh = record { window = replicate window_length 0; filled = 0 }

-- what those bytes say: that more are needed, a NAK, or a refusal
unfoldable pub status : Receiver → Answer Nak
status r = run receiving (take r.filled r.window)

-- one byte more
unfoldable pub put : Receiver → ℕ → Receiver
put r b = record { window = set r.window r.filled b; filled = suc r.filled }

-- the next PDU starts where this one did, whose bytes stay until then
unfoldable pub begun : Receiver → Receiver
begun r = record { window = r.window; filled = 0 }

-- ---- a call

-- 'gives one of: more wanted, one NAK, refused'; a refusal by its number and values
pub data Outcomes : Type 0 where
  more : Outcomes
  nak : Nak → Outcomes
  refusal : List ℕ → Outcomes

abbrev pub outcome_of : Result (Option Nak) Refusal → Outcomes
outcome_of (Ok None) = more
outcome_of (Ok (Some n)) = nak n
outcome_of (Err r) = refusal (paper r)

-- 'how many bytes it took', what it gives, and the state that it leaves
pub record Call : Type 0 where
  pub taken : ℕ
  pub gives : Outcomes
  pub leaves : Receiver

abbrev pub one_more : Call → Call
one_more c = record { taken = suc c.taken; gives = c.gives; leaves = c.leaves }

-- what a state says comes first: 'a NAK is given with the byte that completes it', and a refusal is repeated and no byte taken; else the call goes on
abbrev pub hear : Answer Nak → Receiver → Call → Call
hear (accepted n) r goes_on = record { taken = 0; gives = nak n; leaves = begun r }
hear (short l n) r goes_on = goes_on
hear (refused ns) r goes_on = record { taken = 0; gives = refusal ns; leaves = r }

-- a call with a fragment: a byte of it at a time; behind its last more is wanted
unfoldable pub call : Receiver → List ℕ → Call
call r [] = hear (status r) r (record { taken = 0; gives = more; leaves = r })
call r (b ∷ bs) = hear (status r) r (one_more (call (put r b) bs))

-- ---- the code's answers in these terms

abbrev pub state_of : List ℕ → ℕ → Receiver
state_of w n = record { window = w; filled = n }

-- over a lent window, with the bytes that it holds at exit
abbrev pub call_of : Received → List ℕ → Call
call_of r w = record { taken = r.taken; gives = outcome_of r.outcome; leaves = state_of w r.filled }

abbrev pub taken_of : Taken → Call
taken_of t = record { taken = t.taken; gives = outcome_of t.outcome; leaves = t.receiver }
