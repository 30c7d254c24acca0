-- What is proved of this layer, beside the demand that it meets.
use Rattle.std.specs.Prelude.{ℕ, ◌≡◌, List, ◌++◌, map, length, Result, Ok, Err}
use Rattle.fields.specs.declared.refusal.Refusal.{Refusal}
use Rattle.fields.specs.Answer.{accepted, answer_of}
use Rattle.fields.specs.Staged.{run}
use Rattle.fields.specs.Demand3.{Demand3, CodeDemand3}
use Rattle.header.specs.declared.PduHeader.{PduHeader}
use Rattle.header.specs.declared.pdu.PduWritten.{PduWritten}
use Rattle.header.specs.Pdu.{pdu_over}
use Rattle.ack.specs.declared.Ack.{Ack}
use Rattle.ack.specs.Reading.{reading_ack}
use Rattle.ack.specs.Writing.{ack_data, writing_ack, ack_memory}
use Rattle.ack.specs.Cases.{cases, gives}

-- the ACK under the header that was handed back
abbrev pub under : PduHeader → Ack → Ack
under h a = record { header = h; acked = a.acked; condition = a.condition; status = a.status }

-- DEMAND 2: what is written, followed by anything, reads back under the header handed back
abbrev pub WrittenReadsBack : Type 0
WrittenReadsBack =
    (a : Ack) (room : ℕ) (t : List ℕ) (w : PduWritten) → writing_ack a room ≡ accepted w
    → run reading_ack (pdu_over w.header (ack_data a) ++ t) ≡ accepted (under w.header a)

-- DEMAND 2: so does the buffer that an accepted write left, by the code's own answer
abbrev pub CodeReadsBack : Type 0
CodeReadsBack =
    (a : Ack) (s : List ℕ) (w : PduWritten) (r : Result Ack Refusal) → writing_ack a (length s) ≡ accepted w
    → answer_of r ≡ run reading_ack (ack_memory a s) → r ≡ Ok (under w.header a)

-- DEMAND 3: at most four refusals as short
abbrev pub AckDemand3 : Type 0
AckDemand3 = Demand3 (run reading_ack) 4

-- and its first three parts, of the code's own answers
abbrev pub AckCodeDemand3 : Type 0
AckCodeDemand3 = CodeDemand3 (run reading_ack) answer_of Err

-- the worked examples
abbrev pub WorkedCases : Type 0
WorkedCases = map (λ c. gives c.0) cases ≡ map (λ c. c.1) cases
