-- A header that goes in as numbers: its shape (seven flags and three widths), d, and its three values.
use Rattle.std.specs.Prelude.{ℕ, ◌+◌, Bool, true, false, not, List, eqb, get_or, Option, Some, None}
use Rattle.fields.specs.declared.field.UnsignedByteField.{UnsignedByteField}
use Rattle.fields.specs.Answer.{Answer, accepted, short, refused, and_then}
use Rattle.fields.specs.Staged.{run}
use Rattle.header.specs.declared.PduHeader.{PduHeader}
use Rattle.header.specs.Flags.{pdu_type_if, direction_if, mode_if, crc_if, file_if, control_if, metadata_if}
use Rattle.header.specs.Judging.{joining}
use Rattle.eof.specs.declared.Eof.{Eof}
use Rattle.eof.specs.declared.fault.EntityIdTlv.{EntityIdTlv}
use Rattle.ack.specs.declared.Ack.{Ack}
use Rattle.ack.specs.declared.status.TransactionStatus.{TransactionStatus}
use Rattle.nak.specs.declared.reserve.ReservedNak.{ReservedNak}
use Rattle.nak.specs.Reading.{reading_nak}

-- a flag is set where its byte is not 0
abbrev pub is_on : List ℕ → ℕ → Bool
is_on shape i = not (eqb (get_or shape i 0) 0)

-- shape: type, direction, mode, crc, large, control, metadata, then the widths of source, sequence number and destination; ids: their values
abbrev pub field_from : List ℕ → List ℕ → ℕ → UnsignedByteField
field_from shape ids i = record { width = get_or shape (7 + i) 0; value = get_or ids i 0 }

unfoldable pub record_from : List ℕ → ℕ → List ℕ → PduHeader
record_from shape d ids =
    record {
      kind = pdu_type_if (is_on shape 0);
      direction = direction_if (is_on shape 1);
      mode = mode_if (is_on shape 2);
      crc = crc_if (is_on shape 3);
      file = file_if (is_on shape 4);
      length = d;
      control = control_if (is_on shape 5);
      width = get_or shape 7 0;
      metadata = metadata_if (is_on shape 6);
      source = record { 0 = get_or ids 0 0 };
      sequence = record { 0 = field_from shape ids 1 };
      destination = record { 0 = get_or ids 2 0 };
    }

-- the identifiers go in with a width each, and a header has one for both
unfoldable pub header_from : List ℕ → ℕ → List ℕ → Answer PduHeader
header_from shape d ids = joining (field_from shape ids 0) (field_from shape ids 2) (record_from shape d ids)

-- the header of a PDU that is to be written, whose length is worked out and not given
abbrev pub given_header : List ℕ → List ℕ → Answer PduHeader
given_header shape ids = header_from shape 0 ids

-- a NAK that was reserved: its header and its pairs; where its area lies is worked out anew
abbrev pub reserved_from : PduHeader → ℕ → ReservedNak
reserved_from h pairs = record { header = h; count = pairs; area = 0; stop = 0 }

-- a fault location, if there is one, by its width and value, and the EOF that has it
abbrev pub fault_from : Bool → ℕ → ℕ → Option EntityIdTlv
fault_from true width value = Some (record { width = width; id = record { 0 = value } })
fault_from false width value = None

abbrev pub eof_from : PduHeader → ℕ → ℕ → ℕ → Option EntityIdTlv → Eof
eof_from h condition checksum size fault = record { header = h; condition = condition; file_checksum = checksum; size = size; fault = fault }

-- an ACK, by its status
abbrev pub ack_from : PduHeader → ℕ → ℕ → TransactionStatus → Ack
ack_from h directive condition status = record { header = h; acked = directive; condition = condition; status = status }

-- the lent buffer at exit: what is left of it by the header that was given; where there is none no byte changes
abbrev pub left_by : Answer PduHeader → (PduHeader → List ℕ) → List ℕ → List ℕ
left_by (accepted h) memory s = memory h
left_by (short l n) memory s = s
left_by (refused ns) memory s = s

-- comparing begins with the reader's refusals, and so they come before that of two widths
abbrev pub comparing_from : Answer PduHeader → (PduHeader → Answer Bool) → List ℕ → Answer Bool
comparing_from given compared s = and_then (run reading_nak s) (λ _. and_then given compared)
