-- The log (document 02, C-13): 'tagged fields: one-byte tag, two-byte big-endian length, contents'. Its entries one by one, in the order of the document's refusals, and a run over them.
use Rattle.std.specs.Prelude.{ℕ, zero, suc, ◌+◌, ◌&&◌, List, [], ◌∷◌, eqb, length, drop, if◌then◌else◌, Result, Ok, Err}
use Rattle.fields.specs.BigEndian.{number_at}
use Rattle.fields.specs.Answer.{Answer, accepted, short, refused, told, and_then}
use Rattle.fields.specs.Refusal.{paper}
use Rattle.fields.specs.Staged.{run}
use Rattle.nak.specs.declared.Nak.{Nak}
use Rattle.nak.specs.Reading.{reading_nak}
use Rattle.nak.specs.Requests.{area_of, pairs_of}
use Rattle.tlv.specs.declared.Form.TheVariants.{LongTlv}
use Rattle.tlv.specs.declared.Field.{Field}
use Rattle.tlv.specs.declared.Cut.{Cut}
use Rattle.tlv.specs.Reading.{stop_at, field_in, value_of}
use Rattle.ranges.specs.declared.owed.Stopped.{Stopped}
use Rattle.ranges.specs.Owing.{Entry, heard, resent, State, judging}
use Rattle.ranges.specs.Memory.{state_in, is_state, memory_of}

-- ---- one entry, with which the bytes s begin; its offset in the log is `at`

-- 'Tag 1 is a NAK PDU': its transaction and its pairs
unfoldable pub heard_of : Nak → List ℕ → Entry
heard_of n c = heard n.header.source.0 n.header.sequence.0.value (pairs_of n.header.file (area_of n c))

-- 'tag 2 is a resent range, two 8-byte offsets'
unfoldable pub resent_of : List ℕ → Entry
resent_of c = resent (number_at c 0 8, number_at c 8 8)

-- '26 .. unknown tag, or tag 2 not of 16 bytes, with its offset; the reader's': a NAK is read from the contents as from a buffer
unfoldable pub contents_of : ℕ → ℕ → List ℕ → Answer Entry
contents_of at tag c =
    if eqb tag 1
    then and_then (run reading_nak c) (λ n. accepted (heard_of n c))
    else if eqb tag 2 && eqb (length c) 16 then accepted (resent_of c) else refused (26 ∷ at ∷ [])

-- '26 entry cut'
abbrev pub entry_in : ℕ → List ℕ → Result Field Cut → Answer Entry
entry_in at s (Ok f) = contents_of at f.tag (value_of f s)
entry_in at s (Err cut) = refused (26 ∷ at ∷ [])

-- the entry that stands there
unfoldable pub reading_entry : ℕ → List ℕ → Answer Entry
reading_entry at s = entry_in at s (field_in LongTlv s 0)

-- its bytes
abbrev pub entry_size : List ℕ → ℕ
entry_size s = stop_at LongTlv s 0

-- '26 ..; the reader's; 18 ..; 19 ..; 27'; a memory that holds no state is 23, before the log is looked at
unfoldable pub entering : ℕ → List ℕ → List ℕ → Answer State
entering at s m = if is_state m then and_then (reading_entry at s) (judging (state_in m) at) else refused (23 ∷ [])

-- 'A refused entry ends the run with the state before it'
abbrev pub left_by : Answer State → List ℕ → List ℕ
left_by (accepted s) m = memory_of s
left_by (short l n) m = m
left_by (refused ns) m = m

-- what is answered of an entry: how many bytes it has, or its refusal
unfoldable pub entry_taken : ℕ → List ℕ → List ℕ → Answer ℕ
entry_taken at s m = and_then (entering at s m) (λ _. accepted (entry_size s))

-- and the memory at exit
unfoldable pub entry_memory : ℕ → List ℕ → List ℕ → List ℕ
entry_memory at s m = left_by (entering at s m) m

-- ---- a run

-- where it stands and why, and the memory at exit
pub record Ran : Type 0 where
  pub stop : Answer (Unit {0}) × ℕ
  pub memory : List ℕ

-- after an entry at that offset: the run goes on from the state, or ends
abbrev pub go_on : Answer State → ℕ → List ℕ → (State → Ran) → Ran
go_on (accepted s) at m more = more s
go_on (short l n) at m more = record { stop = (short l n, at); memory = m }
go_on (refused ns) at m more = record { stop = (refused ns, at); memory = m }

-- over the bytes s of a log, of which the first has the offset `at`, in at most so many entries
unfoldable pub run_for : ℕ → ℕ → List ℕ → List ℕ → Ran
run_for zero at s m = record { stop = (accepted tt, at); memory = m }
run_for (suc n) at s m =
    if eqb (length s) 0
    then record { stop = (accepted tt, at); memory = m }
    else go_on (entering at s m) at m (λ t. run_for n (at + entry_size s) (drop (entry_size s) s) (memory_of t))

-- to its end: each entry has a byte at least
unfoldable pub running : ℕ → List ℕ → List ℕ → Ran
running at s m = run_for (length s) at s m

-- the code's answer in document 01's terms, and the offset
abbrev pub stop_answer : Result ℕ Stopped → Answer (Unit {0}) × ℕ
stop_answer (Ok at) = (accepted tt, at)
stop_answer (Err s) = (told (paper s.refusal), s.at)
