-- Worked examples, by hand from section 5.2.2 and document 02: what is given, and the numbers that it gives.
use Rattle.std.specs.Prelude.{ℕ, List, [], ◌∷◌, ◌++◌, take, set, replicate, Option, Some, None}
use Rattle.fields.specs.Answer.{Answer, accepted, short, refused}
use Rattle.fields.specs.Staged.{run}
use Rattle.header.specs.declared.PduHeader.{PduHeader}
use Rattle.header.specs.declared.pdu.PduWritten.{PduWritten}
use Rattle.header.specs.declared.flags.CrcFlag.{CrcFlag}
use Rattle.header.specs.declared.flags.CrcFlag.TheVariants.{NoCrc, WithCrc}
use Rattle.header.specs.declared.flags.Direction.TheVariants.{TowardsSender}
use Rattle.header.specs.declared.flags.LargeFileFlag.{LargeFileFlag}
use Rattle.header.specs.declared.flags.LargeFileFlag.TheVariants.{Normal, Large}
use Rattle.header.specs.declared.flags.PduType.TheVariants.{FileDirective}
use Rattle.header.specs.declared.flags.SegmentMetadataFlag.TheVariants.{NotPresent}
use Rattle.header.specs.declared.flags.SegmentationControl.TheVariants.{NoRecordBoundaryPreservation}
use Rattle.header.specs.declared.flags.TransmissionMode.TheVariants.{Acknowledged}
use Rattle.header.specs.Flags.{direction_bit}
use Rattle.header.specs.Header.{data_end}
use Rattle.eof.specs.declared.Eof.{Eof}
use Rattle.eof.specs.declared.fault.EntityIdTlv.{EntityIdTlv}
use Rattle.eof.specs.Reading.{reading_eof}
use Rattle.eof.specs.Writing.{writing_eof, eof_memory}

-- bytes that are read, or an EOF that is written into so many bytes, each 7 before
pub data Given : Type 0 where
  read : List ℕ → Given
  write : Eof → ℕ → Given

-- a fault location as numbers: width and identifier, or nothing
abbrev pub fault_numbers : Option EntityIdTlv → List ℕ
fault_numbers (Some t) = t.width ∷ t.id.0 ∷ []
fault_numbers None = []

-- an EOF that was read as numbers: 0; direction; source, sequence number, destination; condition code, file checksum, file size; E; the fault location
abbrev pub read_numbers : Answer Eof → List ℕ
read_numbers (accepted e) = 0 ∷ direction_bit e.header.direction ∷ e.header.source.0 ∷ e.header.sequence.0.value ∷ e.header.destination.0 ∷ e.condition ∷ e.file_checksum ∷ e.size ∷ data_end e.header ∷ fault_numbers e.fault
read_numbers (short l n) = 1 ∷ l ∷ n ∷ []
read_numbers (refused ns) = ns

-- what is handed back of a write: 0; direction, d; the written length
abbrev pub write_numbers : Answer PduWritten → List ℕ
write_numbers (accepted w) = 0 ∷ direction_bit w.header.direction ∷ w.header.length ∷ w.length ∷ []
write_numbers (short l n) = 1 ∷ l ∷ n ∷ []
write_numbers (refused ns) = ns

-- and behind that, the buffer at exit
abbrev pub gives : Given → List ℕ
gives (read s) = read_numbers (run reading_eof s)
gives (write e room) = write_numbers (writing_eof e room) ++ eof_memory e (replicate room 7)

-- entities 1 and 3, transaction 2; direction and length are not those of an EOF
abbrev header : LargeFileFlag → CrcFlag → PduHeader
header file crc =
    record {
      kind = FileDirective;
      direction = TowardsSender;
      mode = Acknowledged;
      crc = crc;
      file = file;
      length = 99;
      control = NoRecordBoundaryPreservation;
      width = 1;
      metadata = NotPresent;
      source = record { 0 = 1 };
      sequence = record { 0 = record { width = 1; value = 2 } };
      destination = record { 0 = 3 };
    }

-- a normal one without CRC
abbrev eof : ℕ → ℕ → Option EntityIdTlv → Eof
eof condition size fault = record { header = header Normal NoCrc; condition = condition; file_checksum = 0x01020304; size = size; fault = fault }

abbrev at : ℕ → ℕ → Option EntityIdTlv
at width id = Some (record { width = width; id = record { 0 = id } })

-- no error, a file of 1,000 bytes
abbrev pub A : List ℕ
A = 0x20 ∷ 0x00 ∷ 0x0A ∷ 0x00 ∷ 0x01 ∷ 0x02 ∷ 0x03 ∷ 0x04 ∷ 0x00 ∷ 0x01 ∷ 0x02 ∷ 0x03 ∷ 0x04 ∷ 0x00 ∷ 0x00 ∷ 0x03 ∷ 0xE8 ∷ []

abbrev pub reading_of_a : List ℕ
reading_of_a = 0 ∷ 0 ∷ 1 ∷ 2 ∷ 3 ∷ 0 ∷ 0x01020304 ∷ 1000 ∷ 17 ∷ []

-- the same with so long a data field, and bytes behind the file size
abbrev behind : ℕ → List ℕ → List ℕ
behind d more = set A 2 d ++ more

-- filestore rejection at entity 261, a file of 2^32 bytes; with CRC (Python's binascii.crc_hqx from 0xFFFF)
abbrev pub B : List ℕ
B =
    (0x23 ∷ 0x00 ∷ 0x14 ∷ 0x00 ∷ 0x01 ∷ 0x02 ∷ 0x03 ∷ 0x04 ∷ 0x40 ∷ 0xDE ∷ 0xAD ∷ 0xBE ∷ 0xEF ∷ [])
    ++ (0x00 ∷ 0x00 ∷ 0x00 ∷ 0x01 ∷ 0x00 ∷ 0x00 ∷ 0x00 ∷ 0x00 ∷ 0x06 ∷ 0x02 ∷ 0x01 ∷ 0x05 ∷ 0x0C ∷ 0xF3 ∷ [])

abbrev eof_of_b : Eof
eof_of_b = record { header = header Large WithCrc; condition = 4; file_checksum = 0xDEADBEEF; size = 4294967296; fault = at 2 261 }

abbrev pub cases : List (Given × List ℕ)
cases =
    (read A, reading_of_a) ∷
    (read (A ++ (1 ∷ 2 ∷ [])), reading_of_a) ∷
    (read B, 0 ∷ 0 ∷ 1 ∷ 2 ∷ 3 ∷ 4 ∷ 0xDEADBEEF ∷ 4294967296 ∷ 25 ∷ 2 ∷ 261 ∷ []) ∷
    -- spare bits are not judged
    (read (set A 8 0x0F), reading_of_a) ∷
    -- a fault location with code 0 is shown as it stands
    (read (behind 0x0D (6 ∷ 1 ∷ 5 ∷ [])), 0 ∷ 0 ∷ 1 ∷ 2 ∷ 3 ∷ 0 ∷ 0x01020304 ∷ 1000 ∷ 20 ∷ 1 ∷ 5 ∷ []) ∷
    -- condition codes 9 and 11 to 14
    (read (set A 8 0x90), 0 ∷ 0 ∷ 1 ∷ 2 ∷ 3 ∷ 9 ∷ 0x01020304 ∷ 1000 ∷ 17 ∷ []) ∷
    (read (set A 8 0xB0), 0 ∷ 0 ∷ 1 ∷ 2 ∷ 3 ∷ 11 ∷ 0x01020304 ∷ 1000 ∷ 17 ∷ []) ∷
    (read (set A 8 0xC0), 16 ∷ []) ∷
    (read (set A 8 0xD0), 16 ∷ []) ∷
    (read (set A 8 0xE0), 0 ∷ 0 ∷ 1 ∷ 2 ∷ 3 ∷ 14 ∷ 0x01020304 ∷ 1000 ∷ 17 ∷ []) ∷
    -- another type; a width of 3, and of 0; a byte behind it; a byte too few; one that goes on beyond E; a type alone
    (read (behind 0x0D (5 ∷ 1 ∷ 5 ∷ [])), 28 ∷ []) ∷
    (read (behind 0x0F (6 ∷ 3 ∷ 0 ∷ 0 ∷ 5 ∷ [])), 28 ∷ []) ∷
    (read (behind 0x0C (6 ∷ 0 ∷ [])), 28 ∷ []) ∷
    (read (behind 0x0E (6 ∷ 1 ∷ 5 ∷ 0 ∷ [])), 28 ∷ []) ∷
    (read (behind 0x0D (6 ∷ 2 ∷ 5 ∷ [])), 28 ∷ []) ∷
    (read (behind 0x0D (6 ∷ 2 ∷ 1 ∷ 5 ∷ [])), 28 ∷ []) ∷
    (read (behind 0x0B (6 ∷ 1 ∷ 5 ∷ [])), 28 ∷ []) ∷
    -- with both faults
    (read (set (behind 0x0B (6 ∷ [])) 8 0xC0), 16 ∷ []) ∷
    -- a byte of the file size too few; a large one's four; another directive; an unknown one; file data
    (read (set A 2 0x09), 6 ∷ 16 ∷ 17 ∷ []) ∷
    (read (set A 0 0x21), 6 ∷ 17 ∷ 21 ∷ []) ∷
    (read (set A 7 0x06), 8 ∷ 6 ∷ []) ∷
    (read (set A 7 0x0A), 7 ∷ 10 ∷ []) ∷
    (read (set A 0 0x30), 21 ∷ []) ∷
    (read (take 16 A), 1 ∷ 16 ∷ 17 ∷ []) ∷
    (write (eof 0 1000 None) 19, (0 ∷ 0 ∷ 10 ∷ 17 ∷ []) ++ (A ++ (7 ∷ 7 ∷ []))) ∷
    (write eof_of_b 27, (0 ∷ 0 ∷ 20 ∷ 27 ∷ []) ++ B) ∷
    (write (eof 13 4294967296 None) 1, 16 ∷ 7 ∷ []) ∷
    (write (eof 16 0 None) 1, 16 ∷ 7 ∷ []) ∷
    (write (eof 0 4294967296 (at 3 0)) 1, 29 ∷ 7 ∷ []) ∷
    (write (eof 0 4294967295 (at 3 0)) 1, 3 ∷ 3 ∷ 7 ∷ []) ∷
    (write (eof 0 0 (at 1 256)) 1, 14 ∷ 256 ∷ 1 ∷ 7 ∷ []) ∷
    (write (eof 0 0 (at 1 255)) 1, 11 ∷ 1 ∷ 20 ∷ 7 ∷ []) ∷
    []
