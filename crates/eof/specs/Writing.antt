-- Writing an EOF (document 02, C-01): its data, the header that is handed back, its refusals in their order, and the lent memory at exit.
use Rattle.std.specs.Prelude.{ℕ, ◌+◌, ◌*◌, List, [], ◌∷◌, ◌++◌}
use Rattle.fields.specs.BigEndian.{be_bytes}
use Rattle.fields.specs.Answer.{Answer, Test}
use Rattle.header.specs.declared.PduHeader.{PduHeader}
use Rattle.header.specs.declared.pdu.PduWritten.{PduWritten}
use Rattle.header.specs.declared.flags.Direction.TheVariants.{TowardsReceiver}
use Rattle.header.specs.Header.{crc_length, with_direction, with_length}
use Rattle.header.specs.Size.{size_width, size_too_large}
use Rattle.header.specs.Condition.{reserved_condition}
use Rattle.header.specs.Pdu.{writing_pdu, pdu_memory}
use Rattle.eof.specs.declared.Eof.{Eof}
use Rattle.eof.specs.Fault.{fault_bytes, fault_length, fault_tests}
use Rattle.eof.specs.Eof.{eof_code, file_checksum_width, least_size}

-- the data; the spare bits are 0
unfoldable pub eof_data : Eof → List ℕ
eof_data e =
    (eof_code ∷ e.condition * 16 ∷ [])
    ++ be_bytes file_checksum_width e.file_checksum
    ++ be_bytes (size_width e.header.file) e.size
    ++ fault_bytes e.fault

-- its bytes
unfoldable pub eof_size : Eof → ℕ
eof_size e = least_size e.header.file + fault_length e.fault

-- d: those, plus 2 with CRC
unfoldable pub eof_length : Eof → ℕ
eof_length e = eof_size e + crc_length e.header.crc

-- the header that is handed back: direction 0, towards the receiver; d filled in; the file flag stands
unfoldable pub filled : Eof → PduHeader
filled e = with_length (eof_length e) (with_direction TowardsReceiver e.header)

-- '16, .. 29 file size above 2^32 - 1 without the large file flag, 3 and 14 for the fault location'
unfoldable pub own_tests : Eof → List Test
own_tests e = reserved_condition e.condition ∷ size_too_large e.header.file e.size ∷ fault_tests e.fault

-- 'On writing, after 14' and 21: those, 11
unfoldable pub writing_eof : Eof → ℕ → Answer PduWritten
writing_eof e room = writing_pdu (filled e) (own_tests e) room

-- the buffer at exit: the EOF's bytes in front, the rest as it was; a refusal changes nothing
unfoldable pub eof_memory : Eof → List ℕ → List ℕ
eof_memory e s = pdu_memory (filled e) (own_tests e) (eof_data e) s
