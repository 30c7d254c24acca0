-- Worked examples, by hand from section 5.2.5 and document 02: what is given, and the numbers that it gives.
use Rattle.std.specs.Prelude.{ℕ, true, false, List, [], ◌∷◌, ◌++◌, take, set, replicate}
use Rattle.fields.specs.Answer.{Answer, accepted, short, refused}
use Rattle.fields.specs.Staged.{run}
use Rattle.header.specs.declared.PduHeader.{PduHeader}
use Rattle.header.specs.declared.pdu.PduWritten.{PduWritten}
use Rattle.header.specs.declared.flags.CrcFlag.{CrcFlag}
use Rattle.header.specs.declared.flags.CrcFlag.TheVariants.{NoCrc, WithCrc}
use Rattle.header.specs.declared.flags.Direction.TheVariants.{TowardsSender}
use Rattle.header.specs.declared.flags.LargeFileFlag.{LargeFileFlag}
use Rattle.header.specs.declared.flags.LargeFileFlag.TheVariants.{Normal, Large}
use Rattle.header.specs.declared.flags.PduType.TheVariants.{FileDirective}
use Rattle.header.specs.declared.flags.SegmentMetadataFlag.TheVariants.{NotPresent}
use Rattle.header.specs.declared.flags.SegmentationControl.TheVariants.{NoRecordBoundaryPreservation}
use Rattle.header.specs.declared.flags.TransmissionMode.TheVariants.{Acknowledged}
use Rattle.header.specs.Flags.{direction_bit}
use Rattle.metadata.specs.declared.Part.{Part}
use Rattle.metadata.specs.declared.MetadataParams.{MetadataParams}
use Rattle.metadata.specs.declared.Metadata.{Metadata}
use Rattle.metadata.specs.Reading.{reading_metadata}
use Rattle.metadata.specs.Writing.{closure_bit, writing_metadata, metadata_memory}

-- what is lent to a write: two names and the options
pub record Lent : Type 0 where
  pub source : List ℕ
  pub destination : List ℕ
  pub options : List ℕ

-- bytes that are read, or a PDU that is written into so many bytes, each 7 before
pub data Given : Type 0 where
  read : List ℕ → Given
  write : MetadataParams → Lent → ℕ → Given

abbrev place_numbers : Part → List ℕ → List ℕ
place_numbers p more = p.start ∷ p.stop ∷ more

-- a PDU that was read as numbers: 0; direction; source, sequence number, destination; closure, checksum type, file size; where both names and the options start and stop
abbrev pub read_numbers : Answer Metadata → List ℕ
read_numbers (accepted m) =
    0 ∷ direction_bit m.params.header.direction ∷ m.params.header.source.0 ∷ m.params.header.sequence.0.value ∷ m.params.header.destination.0 ∷ closure_bit m.params.closure ∷ m.params.kind ∷ m.params.size ∷ place_numbers m.source (place_numbers m.destination (place_numbers m.options []))
read_numbers (short l n) = 1 ∷ l ∷ n ∷ []
read_numbers (refused ns) = ns

-- what is handed back of a write: 0; direction, d; the written length
abbrev pub write_numbers : Answer PduWritten → List ℕ
write_numbers (accepted w) = 0 ∷ direction_bit w.header.direction ∷ w.header.length ∷ w.length ∷ []
write_numbers (short l n) = 1 ∷ l ∷ n ∷ []
write_numbers (refused ns) = ns

-- and behind that, the buffer at exit
abbrev pub gives : Given → List ℕ
gives (read s) = read_numbers (run reading_metadata s)
gives (write p l room) =
    write_numbers (writing_metadata p l.source l.destination l.options room) ++ metadata_memory p l.source l.destination l.options (replicate room 7)

-- entities 1 and 3, transaction 2; direction and length are not those of a Metadata PDU
abbrev header : LargeFileFlag → CrcFlag → PduHeader
header file crc =
    record {
      kind = FileDirective;
      direction = TowardsSender;
      mode = Acknowledged;
      crc = crc;
      file = file;
      length = 99;
      control = NoRecordBoundaryPreservation;
      width = 1;
      metadata = NotPresent;
      source = record { 0 = 1 };
      sequence = record { 0 = record { width = 1; value = 2 } };
      destination = record { 0 = 3 };
    }

-- a normal one without CRC
abbrev params : ℕ → ℕ → MetadataParams
params kind size = record { header = header Normal NoCrc; closure = false; kind = kind; size = size }

abbrev lent : List ℕ → List ℕ → List ℕ → Lent
lent source destination options = record { source = source; destination = destination; options = options }

-- 'a.bin' and 'b.bin'
abbrev a_bin : List ℕ
a_bin = 0x61 ∷ 0x2E ∷ 0x62 ∷ 0x69 ∷ 0x6E ∷ []

abbrev b_bin : List ℕ
b_bin = 0x62 ∷ 0x2E ∷ 0x62 ∷ 0x69 ∷ 0x6E ∷ []

-- a message to the user, 'ab'
abbrev message : List ℕ
message = 2 ∷ 2 ∷ 0x61 ∷ 0x62 ∷ []

-- a file of 9 bytes, from a.bin to b.bin, CRC-32, with that message
abbrev pub A : List ℕ
A = (0x20 ∷ 0x00 ∷ 0x16 ∷ 0x00 ∷ 0x01 ∷ 0x02 ∷ 0x03 ∷ 0x07 ∷ 0x03 ∷ 0x00 ∷ 0x00 ∷ 0x00 ∷ 0x09 ∷ []) ++ ((5 ∷ a_bin) ++ ((5 ∷ b_bin) ++ message))

-- what is read of it, but for the places of names and options
abbrev of_a : ℕ → ℕ → List ℕ → List ℕ
of_a closure kind places = 0 ∷ 0 ∷ 1 ∷ 2 ∷ 3 ∷ closure ∷ kind ∷ 9 ∷ places

abbrev pub reading_of_a : List ℕ
reading_of_a = of_a 0 3 (14 ∷ 19 ∷ 20 ∷ 25 ∷ 25 ∷ 29 ∷ [])

-- closure requested, no checksum, a file of 2^32 bytes, two empty names and no option; with CRC (Python's binascii.crc_hqx from 0xFFFF)
abbrev pub B : List ℕ
B =
    (0x23 ∷ 0x00 ∷ 0x0E ∷ 0x00 ∷ 0x01 ∷ 0x02 ∷ 0x03 ∷ 0x07 ∷ 0x4F ∷ [])
    ++ (0x00 ∷ 0x00 ∷ 0x00 ∷ 0x01 ∷ 0x00 ∷ 0x00 ∷ 0x00 ∷ 0x00 ∷ 0x00 ∷ 0x00 ∷ 0xAC ∷ 0xD0 ∷ [])

abbrev params_of_b : MetadataParams
params_of_b = record { header = header Large WithCrc; closure = true; kind = 15; size = 4294967296 }

abbrev pub cases : List (Given × List ℕ)
cases =
    (read A, reading_of_a) ∷
    (read (A ++ (1 ∷ 2 ∷ [])), reading_of_a) ∷
    (read B, 0 ∷ 0 ∷ 1 ∷ 2 ∷ 3 ∷ 1 ∷ 15 ∷ 4294967296 ∷ 18 ∷ 18 ∷ 19 ∷ 19 ∷ 19 ∷ 19 ∷ []) ∷
    -- spare bits are not judged; the flag is bit 6
    (read (set A 8 0xB3), reading_of_a) ∷
    (read (set A 8 0x43), of_a 1 3 (14 ∷ 19 ∷ 20 ∷ 25 ∷ 25 ∷ 29 ∷ [])) ∷
    -- checksum types 4 and 14 to 15
    (read (set A 8 0x04), 30 ∷ []) ∷
    (read (set A 8 0x0E), 30 ∷ []) ∷
    (read (set A 8 0x0F), of_a 0 15 (14 ∷ 19 ∷ 20 ∷ 25 ∷ 25 ∷ 29 ∷ [])) ∷
    -- the source's name runs past E; it reaches E, so that the destination's length byte would lie there
    (read (set A 13 16), 25 ∷ 13 ∷ []) ∷
    (read (set A 13 15), 25 ∷ 29 ∷ []) ∷
    -- so does the destination's; it reaches E, and there is no option
    (read (set A 19 10), 25 ∷ 19 ∷ []) ∷
    (read (set A 19 9), of_a 0 3 (14 ∷ 19 ∷ 20 ∷ 29 ∷ 29 ∷ 29 ∷ [])) ∷
    -- an option runs past E, also with bytes behind E; a type byte alone; the second option
    (read (set A 26 3), 25 ∷ 25 ∷ []) ∷
    (read (set (A ++ (1 ∷ [])) 26 3), 25 ∷ 25 ∷ []) ∷
    (read (set A 26 1), 25 ∷ 28 ∷ []) ∷
    (read (set A 26 0), 25 ∷ 27 ∷ []) ∷
    -- with both faults
    (read (set (set A 8 0x04) 13 16), 30 ∷ []) ∷
    -- a byte of the file size too few; none of the names; a large one's four; another directive; an unknown one; file data
    (read (set A 2 0x05), 6 ∷ 12 ∷ 13 ∷ []) ∷
    (read (set A 2 0x06), 25 ∷ 13 ∷ []) ∷
    (read (set (set A 2 0x09) 0 0x21), 6 ∷ 16 ∷ 17 ∷ []) ∷
    (read (set A 7 0x04), 8 ∷ 4 ∷ []) ∷
    (read (set A 7 0x0A), 7 ∷ 10 ∷ []) ∷
    (read (set A 0 0x30), 21 ∷ []) ∷
    (read (take 28 A), 1 ∷ 28 ∷ 29 ∷ []) ∷
    (write (params 3 9) (lent a_bin b_bin message) 31, (0 ∷ 0 ∷ 22 ∷ 29 ∷ []) ++ (A ++ (7 ∷ 7 ∷ []))) ∷
    (write params_of_b (lent [] [] []) 21, (0 ∷ 0 ∷ 14 ∷ 21 ∷ []) ++ B) ∷
    -- each refusal, with those that stand behind it
    (write (params 4 4294967296) (lent (replicate 256 0) [] (2 ∷ [])) 1, 30 ∷ 7 ∷ []) ∷
    (write (params 19 0) (lent [] [] []) 1, 30 ∷ 7 ∷ []) ∷
    (write (params 3 4294967296) (lent (replicate 256 0) [] (2 ∷ [])) 1, 29 ∷ 7 ∷ []) ∷
    (write (params 3 4294967295) (lent (replicate 256 0) [] (2 ∷ [])) 1, 31 ∷ 7 ∷ []) ∷
    (write (params 3 9) (lent [] (replicate 256 0) (2 ∷ [])) 1, 31 ∷ 7 ∷ []) ∷
    (write (params 3 9) (lent a_bin b_bin (2 ∷ 3 ∷ 0x61 ∷ 0x62 ∷ [])) 1, 25 ∷ 0 ∷ 7 ∷ []) ∷
    (write (params 3 9) (lent a_bin b_bin (6 ∷ 1 ∷ 5 ∷ 2 ∷ [])) 1, 25 ∷ 3 ∷ 7 ∷ []) ∷
    (write (params 3 9) (lent a_bin b_bin message) 1, 11 ∷ 1 ∷ 29 ∷ 7 ∷ []) ∷
    []
