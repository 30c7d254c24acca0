-- The header on the link (CCSDS 727.0-B-5, 5.1, table 5-1), its lengths, and the record with one field set anew.
use Rattle.std.specs.Prelude.{ℕ, ◌+◌, ◌-◌, ◌*◌, List, ◌++◌}
use Rattle.fields.specs.declared.field.UnsignedByteField.{UnsignedByteField}
use Rattle.fields.specs.BigEndian.{be_bytes}
use Rattle.header.specs.declared.PduHeader.{PduHeader}
use Rattle.header.specs.declared.flags.Direction.{Direction}
use Rattle.header.specs.declared.flags.CrcFlag.{CrcFlag}
use Rattle.header.specs.declared.flags.LargeFileFlag.{LargeFileFlag}
use Rattle.header.specs.Flags.{pdu_type_bit, direction_bit, mode_bit, crc_bit, file_bit, control_bit, metadata_bit}

-- the version of this standard
abbrev pub version : ℕ
version = 1

-- where the fields of fixed width stand: byte 0, bytes 1 and 2, byte 3; the identifiers begin behind them
abbrev pub length_at : ℕ
length_at = 1

abbrev pub widths_at : ℕ
widths_at = 3

abbrev pub fixed_length : ℕ
fixed_length = 4

-- e and s: the widths of the identifiers and of the sequence number
abbrev pub entity_width : PduHeader → ℕ
entity_width h = h.width

abbrev pub sequence_width : PduHeader → ℕ
sequence_width h = h.sequence.0.width

-- an identifier with its width
abbrev pub source_id : PduHeader → UnsignedByteField
source_id h = record { width = h.width; value = h.source.0 }

abbrev pub dest_id : PduHeader → UnsignedByteField
dest_id h = record { width = h.width; value = h.destination.0 }

-- h = 4 + 2e + s
abbrev pub length_of : ℕ → ℕ → ℕ
length_of e s = fixed_length + 2 * e + s

unfoldable pub header_length : PduHeader → ℕ
header_length h = length_of (entity_width h) (sequence_width h)

-- P = h + d
unfoldable pub pdu_length : PduHeader → ℕ
pdu_length h = header_length h + h.length

-- the bytes of the checksum: 2 with the CRC flag, else none
abbrev pub checksum_width : ℕ
checksum_width = 2

abbrev pub crc_length : CrcFlag → ℕ
crc_length flag = checksum_width * crc_bit flag

-- E = P, or P - 2 with the CRC flag
unfoldable pub data_end : PduHeader → ℕ
data_end h = pdu_length h - crc_length h.crc

-- byte 0, high bit first: version 3 bits, PDU type 1, direction 1, transmission mode 1, CRC flag 1, large file flag 1
unfoldable pub first_byte : PduHeader → ℕ
first_byte h = version * 32 + pdu_type_bit h.kind * 16 + direction_bit h.direction * 8 + mode_bit h.mode * 4 + crc_bit h.crc * 2 + file_bit h.file

-- byte 3: segmentation control 1 bit, entity width less one 3 bits, segment metadata flag 1 bit, sequence width less one 3 bits
unfoldable pub fourth_byte : PduHeader → ℕ
fourth_byte h = control_bit h.control * 128 + (entity_width h - 1) * 16 + metadata_bit h.metadata * 8 + (sequence_width h - 1)

-- byte 0; bytes 1 and 2: data field length d; byte 3; then source entity ID, sequence number, destination entity ID
unfoldable pub header_bytes : PduHeader → List ℕ
header_bytes h =
    be_bytes 1 (first_byte h) ++ be_bytes 2 h.length ++ be_bytes 1 (fourth_byte h)
    ++ be_bytes (entity_width h) h.source.0
    ++ be_bytes (sequence_width h) h.sequence.0.value
    ++ be_bytes (entity_width h) h.destination.0

-- a header with one field set anew
abbrev pub with_direction : Direction → PduHeader → PduHeader
with_direction d h = record { kind = h.kind; direction = d; mode = h.mode; crc = h.crc; file = h.file; length = h.length; control = h.control; width = h.width; metadata = h.metadata; source = h.source; sequence = h.sequence; destination = h.destination }

abbrev pub with_file_flag : LargeFileFlag → PduHeader → PduHeader
with_file_flag f h = record { kind = h.kind; direction = h.direction; mode = h.mode; crc = h.crc; file = f; length = h.length; control = h.control; width = h.width; metadata = h.metadata; source = h.source; sequence = h.sequence; destination = h.destination }

abbrev pub with_length : ℕ → PduHeader → PduHeader
with_length d h = record { kind = h.kind; direction = h.direction; mode = h.mode; crc = h.crc; file = h.file; length = d; control = h.control; width = h.width; metadata = h.metadata; source = h.source; sequence = h.sequence; destination = h.destination }
