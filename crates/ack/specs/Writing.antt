-- Writing an ACK (document 02, C-01): its data, the header that is handed back, its refusals in their order, and the lent memory at exit.
use Rattle.std.specs.Prelude.{ℕ, ◌+◌, ◌*◌, List, [], ◌∷◌}
use Rattle.fields.specs.Answer.{Answer, Test}
use Rattle.header.specs.declared.PduHeader.{PduHeader}
use Rattle.header.specs.declared.pdu.PduWritten.{PduWritten}
use Rattle.header.specs.Header.{crc_length, with_direction, with_length}
use Rattle.header.specs.Pdu.{writing_pdu, pdu_memory}
use Rattle.ack.specs.declared.Ack.{Ack}
use Rattle.ack.specs.Ack.{ack_code, ack_size, subtype_of, direction_for, status_bits, code_tests}

-- the data; the spare bits are 0
unfoldable pub ack_data : Ack → List ℕ
ack_data a = ack_code ∷ (a.acked * 16 + subtype_of a.acked) ∷ (a.condition * 16 + status_bits a.status) ∷ []

-- d: its bytes, plus 2 with CRC
unfoldable pub ack_length : Ack → ℕ
ack_length a = ack_size + crc_length a.header.crc

-- the header that is handed back: direction by the acknowledged directive, d filled in
unfoldable pub filled : Ack → PduHeader
filled a = with_length (ack_length a) (with_direction (direction_for a.acked) a.header)

-- '16, 17'
unfoldable pub own_tests : Ack → List Test
own_tests a = code_tests a.condition a.acked

-- 'On writing, after 14' and 21: those, 11
unfoldable pub writing_ack : Ack → ℕ → Answer PduWritten
writing_ack a room = writing_pdu (filled a) (own_tests a) room

-- the buffer at exit: the ACK's bytes in front, the rest as it was; a refusal changes nothing
unfoldable pub ack_memory : Ack → List ℕ → List ℕ
ack_memory a s = pdu_memory (filled a) (own_tests a) (ack_data a) s
