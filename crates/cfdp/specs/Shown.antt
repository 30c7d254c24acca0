-- An answer as numbers: 0 and what was accepted, or the refusal's number and its values; the rest is 0.
use Rattle.std.specs.Prelude.{ℕ, zero, suc, Bool, true, false, List, [], ◌∷◌, ◌++◌, Option, Some, None}
use Rattle.fields.specs.declared.refusal.Refusal.{Refusal}
use Rattle.fields.specs.Refusal.{paper}
use Rattle.fields.specs.Answer.{Answer, accepted, short, refused}
use Rattle.header.specs.declared.PduHeader.{PduHeader}
use Rattle.header.specs.Flags.{pdu_type_bit, direction_bit, mode_bit, crc_bit, file_bit, control_bit, metadata_bit}
use Rattle.header.specs.Header.{header_length, pdu_length, data_end}
use Rattle.eof.specs.declared.Eof.{Eof}
use Rattle.eof.specs.declared.fault.EntityIdTlv.{EntityIdTlv}
use Rattle.ack.specs.declared.Ack.{Ack}
use Rattle.ack.specs.Ack.{status_bits}
use Rattle.nak.specs.declared.Nak.{Nak}
use Rattle.nak.specs.declared.reserve.ReservedNak.{ReservedNak}
use Rattle.header.specs.declared.pdu.PduWritten.{PduWritten}

-- the first n of the numbers, and 0 where there are fewer
abbrev pub padded : ℕ → List ℕ → List ℕ
padded zero ns = []
padded (suc n) [] = 0 ∷ padded n []
padded (suc n) (v ∷ vs) = v ∷ padded n vs

-- as many as an answer has
abbrev pub answer_size : ℕ
answer_size = 24

-- an answer's numbers, given those of what is accepted
abbrev pub answer_numbers : {A : Type 0} → (A → List ℕ) → Answer A → List ℕ
answer_numbers numbers (accepted a) = 0 ∷ numbers a
answer_numbers numbers (short l n) = 1 ∷ l ∷ n ∷ []
answer_numbers numbers (refused ns) = ns

unfoldable pub shown : {A : Type 0} → (A → List ℕ) → Answer A → List ℕ
shown numbers o = padded answer_size (answer_numbers numbers o)

-- a refusal, by document 01's number of it and its values
unfoldable pub refusal_shown : Refusal → List ℕ
refusal_shown r = padded answer_size (paper r)

-- a header as 14 numbers, each identifier with its width
abbrev pub header_numbers : PduHeader → List ℕ
header_numbers h =
    pdu_type_bit h.kind
    ∷ direction_bit h.direction
    ∷ mode_bit h.mode
    ∷ crc_bit h.crc
    ∷ file_bit h.file
    ∷ control_bit h.control
    ∷ metadata_bit h.metadata
    ∷ h.length
    ∷ h.width
    ∷ h.source.0
    ∷ h.sequence.0.width
    ∷ h.sequence.0.value
    ∷ h.width
    ∷ h.destination.0
    ∷ []

-- a length or a count
abbrev pub one_number : ℕ → List ℕ
one_number n = n ∷ []

-- a header that was read, and h
abbrev pub read_header_numbers : PduHeader → List ℕ
read_header_numbers h = header_numbers h ++ (header_length h ∷ [])

-- a NAK that was read: header, scope, where its request area starts, E, whole pairs
abbrev pub nak_numbers : Nak → List ℕ
nak_numbers n = header_numbers n.header ++ (n.start ∷ n.end ∷ n.area ∷ n.stop ∷ n.count ∷ [])

-- a fault location: 1 where there is one, its width and its value; else zeros
abbrev pub fault_numbers : Option EntityIdTlv → List ℕ
fault_numbers (Some t) = 1 ∷ t.width ∷ t.id.0 ∷ []
fault_numbers None = 0 ∷ 0 ∷ 0 ∷ []

-- an EOF that was read: header, condition code, file checksum, file size, fault location, E
abbrev pub eof_numbers : Eof → List ℕ
eof_numbers e = header_numbers e.header ++ (e.condition ∷ e.file_checksum ∷ e.size ∷ (fault_numbers e.fault ++ (data_end e.header ∷ [])))

-- an ACK that was read: header, acknowledged directive, condition code, transaction status, E
abbrev pub ack_numbers : Ack → List ℕ
ack_numbers a = header_numbers a.header ++ (a.acked ∷ a.condition ∷ status_bits a.status ∷ data_end a.header ∷ [])

-- a PDU that was written: the header handed back, and the written length
abbrev pub written_numbers : PduWritten → List ℕ
written_numbers w = header_numbers w.header ++ (w.length ∷ [])

-- a NAK that was reserved: the header handed back, its pairs, where its request area starts and stops, the length that it will have
abbrev pub reserved_numbers : ReservedNak → List ℕ
reserved_numbers r = header_numbers r.header ++ (r.count ∷ r.area ∷ r.stop ∷ pdu_length r.header ∷ [])

-- a comparison: 1 for equal, 0 for different
abbrev pub verdict_number : Bool → List ℕ
verdict_number true = 1 ∷ []
verdict_number false = 0 ∷ []
