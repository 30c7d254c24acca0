-- Worked examples, by hand from section 5.2.4 and document 02: what is given, and the numbers that it gives.
use Rattle.std.specs.Prelude.{ℕ, List, [], ◌∷◌, ◌++◌, take, set, replicate}
use Rattle.fields.specs.Answer.{Answer, accepted, short, refused}
use Rattle.fields.specs.Staged.{run}
use Rattle.header.specs.declared.PduHeader.{PduHeader}
use Rattle.header.specs.declared.pdu.PduWritten.{PduWritten}
use Rattle.header.specs.declared.flags.CrcFlag.{CrcFlag}
use Rattle.header.specs.declared.flags.CrcFlag.TheVariants.{NoCrc, WithCrc}
use Rattle.header.specs.declared.flags.Direction.TheVariants.{TowardsReceiver}
use Rattle.header.specs.declared.flags.LargeFileFlag.TheVariants.{Normal}
use Rattle.header.specs.declared.flags.PduType.TheVariants.{FileDirective}
use Rattle.header.specs.declared.flags.SegmentMetadataFlag.TheVariants.{NotPresent}
use Rattle.header.specs.declared.flags.SegmentationControl.TheVariants.{NoRecordBoundaryPreservation}
use Rattle.header.specs.declared.flags.TransmissionMode.TheVariants.{Acknowledged}
use Rattle.header.specs.Flags.{direction_bit}
use Rattle.header.specs.Header.{data_end}
use Rattle.ack.specs.declared.Ack.{Ack}
use Rattle.ack.specs.declared.status.TransactionStatus.{TransactionStatus}
use Rattle.ack.specs.declared.status.TransactionStatus.TheVariants.{Active, Terminated}
use Rattle.ack.specs.Ack.{status_bits}
use Rattle.ack.specs.Reading.{reading_ack}
use Rattle.ack.specs.Writing.{writing_ack, ack_memory}

-- bytes that are read, or an ACK that is written into so many bytes, each 7 before
pub data Given : Type 0 where
  read : List ℕ → Given
  write : Ack → ℕ → Given

-- an ACK that was read as numbers: 0; direction; source, sequence number, destination; acknowledged directive, condition code, status; E
abbrev pub read_numbers : Answer Ack → List ℕ
read_numbers (accepted a) = 0 ∷ direction_bit a.header.direction ∷ a.header.source.0 ∷ a.header.sequence.0.value ∷ a.header.destination.0 ∷ a.acked ∷ a.condition ∷ status_bits a.status ∷ data_end a.header ∷ []
read_numbers (short l n) = 1 ∷ l ∷ n ∷ []
read_numbers (refused ns) = ns

-- what is handed back of a write: 0; direction, d; the written length
abbrev pub write_numbers : Answer PduWritten → List ℕ
write_numbers (accepted w) = 0 ∷ direction_bit w.header.direction ∷ w.header.length ∷ w.length ∷ []
write_numbers (short l n) = 1 ∷ l ∷ n ∷ []
write_numbers (refused ns) = ns

-- and behind that, the buffer at exit
abbrev pub gives : Given → List ℕ
gives (read s) = read_numbers (run reading_ack s)
gives (write a room) = write_numbers (writing_ack a room) ++ ack_memory a (replicate room 7)

-- entities 1 and 3, transaction 2; direction and length are not those of an ACK
abbrev header : CrcFlag → PduHeader
header crc =
    record {
      kind = FileDirective;
      direction = TowardsReceiver;
      mode = Acknowledged;
      crc = crc;
      file = Normal;
      length = 99;
      control = NoRecordBoundaryPreservation;
      width = 1;
      metadata = NotPresent;
      source = record { 0 = 1 };
      sequence = record { 0 = record { width = 1; value = 2 } };
      destination = record { 0 = 3 };
    }

abbrev ack : CrcFlag → ℕ → ℕ → TransactionStatus → Ack
ack crc acked condition status = record { header = header crc; acked = acked; condition = condition; status = status }

-- of an EOF: no error, active; towards the sender
abbrev pub A : List ℕ
A = 0x28 ∷ 0x00 ∷ 0x03 ∷ 0x00 ∷ 0x01 ∷ 0x02 ∷ 0x03 ∷ 0x06 ∷ 0x40 ∷ 0x01 ∷ []

-- of a Finished: cancelled, terminated; towards the receiver, with CRC (Python's binascii.crc_hqx from 0xFFFF)
abbrev pub B : List ℕ
B = 0x22 ∷ 0x00 ∷ 0x05 ∷ 0x00 ∷ 0x01 ∷ 0x02 ∷ 0x03 ∷ 0x06 ∷ 0x51 ∷ 0xF2 ∷ 0x94 ∷ 0x8C ∷ []

abbrev pub reading_of_a : List ℕ
reading_of_a = 0 ∷ 1 ∷ 1 ∷ 2 ∷ 3 ∷ 4 ∷ 0 ∷ 1 ∷ 10 ∷ []

abbrev pub cases : List (Given × List ℕ)
cases =
    (read A, reading_of_a) ∷
    (read (A ++ (1 ∷ 2 ∷ [])), reading_of_a) ∷
    (read B, 0 ∷ 0 ∷ 1 ∷ 2 ∷ 3 ∷ 5 ∷ 15 ∷ 2 ∷ 10 ∷ []) ∷
    -- spare bits and the subtype are not judged; nor are bytes behind the three
    (read (set (set A 8 0x4F) 9 0x0D), reading_of_a) ∷
    (read (set A 2 0x05 ++ (1 ∷ 2 ∷ [])), 0 ∷ 1 ∷ 1 ∷ 2 ∷ 3 ∷ 4 ∷ 0 ∷ 1 ∷ 12 ∷ []) ∷
    -- condition codes 9 and 11 to 14
    (read (set A 9 0x91), 0 ∷ 1 ∷ 1 ∷ 2 ∷ 3 ∷ 4 ∷ 9 ∷ 1 ∷ 10 ∷ []) ∷
    (read (set A 9 0xB1), 0 ∷ 1 ∷ 1 ∷ 2 ∷ 3 ∷ 4 ∷ 11 ∷ 1 ∷ 10 ∷ []) ∷
    (read (set A 9 0xC1), 16 ∷ []) ∷
    (read (set A 9 0xD1), 16 ∷ []) ∷
    (read (set A 9 0xE1), 0 ∷ 1 ∷ 1 ∷ 2 ∷ 3 ∷ 4 ∷ 14 ∷ 1 ∷ 10 ∷ []) ∷
    -- of an ACK; with both faults
    (read (set A 8 0x60), 17 ∷ []) ∷
    (read (set (set A 8 0x60) 9 0xC1), 16 ∷ []) ∷
    -- two bytes of data; another directive; none; file data
    (read (take 9 (set A 2 0x02)), 6 ∷ 9 ∷ 10 ∷ []) ∷
    (read (set A 7 0x04), 8 ∷ 4 ∷ []) ∷
    (read (set A 7 0x0A), 7 ∷ 10 ∷ []) ∷
    (read (set A 0 0x38), 21 ∷ []) ∷
    (read (take 9 A), 1 ∷ 9 ∷ 10 ∷ []) ∷
    (write (ack NoCrc 4 0 Active) 12, (0 ∷ 1 ∷ 3 ∷ 10 ∷ []) ++ (A ++ (7 ∷ 7 ∷ []))) ∷
    (write (ack WithCrc 5 15 Terminated) 12, (0 ∷ 0 ∷ 5 ∷ 12 ∷ []) ++ B) ∷
    (write (ack NoCrc 6 12 Active) 3, 16 ∷ 7 ∷ 7 ∷ 7 ∷ []) ∷
    (write (ack NoCrc 6 0 Active) 3, 17 ∷ 7 ∷ 7 ∷ 7 ∷ []) ∷
    (write (ack NoCrc 20 0 Active) 3, 17 ∷ 7 ∷ 7 ∷ 7 ∷ []) ∷
    (write (ack NoCrc 4 16 Active) 3, 16 ∷ 7 ∷ 7 ∷ 7 ∷ []) ∷
    (write (ack NoCrc 4 0 Active) 3, 11 ∷ 3 ∷ 10 ∷ 7 ∷ 7 ∷ 7 ∷ []) ∷
    []
