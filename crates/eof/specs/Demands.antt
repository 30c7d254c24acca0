-- What is proved of this layer, beside the demand that it meets.
use Rattle.std.specs.Prelude.{ℕ, ◌^◌, ◌<◌, ◌≡◌, List, ◌++◌, map, length, Result, Ok, Err}
use Rattle.fields.specs.declared.refusal.Refusal.{Refusal}
use Rattle.fields.specs.Answer.{accepted, answer_of}
use Rattle.fields.specs.Staged.{run}
use Rattle.fields.specs.Demand3.{Demand3, CodeDemand3}
use Rattle.header.specs.declared.PduHeader.{PduHeader}
use Rattle.header.specs.declared.pdu.PduWritten.{PduWritten}
use Rattle.header.specs.Pdu.{pdu_over}
use Rattle.eof.specs.declared.Eof.{Eof}
use Rattle.eof.specs.Reading.{reading_eof}
use Rattle.eof.specs.Writing.{eof_data, writing_eof, eof_memory}
use Rattle.eof.specs.Cases.{cases, gives}

-- the EOF under the header that was handed back
abbrev pub under : PduHeader → Eof → Eof
under h e = record { header = h; condition = e.condition; file_checksum = e.file_checksum; size = e.size; fault = e.fault }

-- DEMAND 2: what is written, followed by anything, reads back under the header handed back
abbrev pub WrittenReadsBack : Type 0
WrittenReadsBack =
    (e : Eof) (room : ℕ) (t : List ℕ) (w : PduWritten) → e.file_checksum < 2 ^ 32 → writing_eof e room ≡ accepted w
    → run reading_eof (pdu_over w.header (eof_data e) ++ t) ≡ accepted (under w.header e)

-- DEMAND 2: so does the buffer that an accepted write left, by the code's own answer
abbrev pub CodeReadsBack : Type 0
CodeReadsBack =
    (e : Eof) (s : List ℕ) (w : PduWritten) (r : Result Eof Refusal) → e.file_checksum < 2 ^ 32 → writing_eof e (length s) ≡ accepted w
    → answer_of r ≡ run reading_eof (eof_memory e s) → r ≡ Ok (under w.header e)

-- DEMAND 3: at most four refusals as short
abbrev pub EofDemand3 : Type 0
EofDemand3 = Demand3 (run reading_eof) 4

-- and its first three parts, of the code's own answers
abbrev pub EofCodeDemand3 : Type 0
EofCodeDemand3 = CodeDemand3 (run reading_eof) answer_of Err

-- the worked examples
abbrev pub WorkedCases : Type 0
WorkedCases = map (λ c. gives c.0) cases ≡ map (λ c. c.1) cases
