-- Reading a header: what stands in its bytes (5.1, table 5-1), and the reading, in the order of document 01's sentence.
use Rattle.std.specs.Prelude.{ℕ, ◌+◌, ◌/◌, ◌%◌, Bool, not, List, [], ◌∷◌, eqb, get_or}
use Rattle.fields.specs.BigEndian.{number_at}
use Rattle.fields.specs.Answer.{Test, when}
use Rattle.fields.specs.Staged.{Staged, accept, ◌>>=◌, ◌>>◌, bytes, test}
use Rattle.header.specs.declared.PduHeader.{PduHeader}
use Rattle.header.specs.Flags.{pdu_type_if, direction_if, mode_if, crc_if, file_if, control_if, metadata_if}
use Rattle.header.specs.Header.{version, length_at, widths_at, fixed_length, length_of}
use Rattle.header.specs.Judging.{wrong_entity_width, wrong_sequence_width}

-- whether the bit of that value is set in a byte
unfoldable pub is_set : ℕ → ℕ → Bool
is_set b value = eqb (b / value % 2) 1

-- byte 0: the version in the three highest bits
abbrev pub version_in : List ℕ → ℕ
version_in s = get_or s 0 0 / 32 % 8

-- byte 3: the widths, each stored less one
abbrev pub entity_width_in : List ℕ → ℕ
entity_width_in s = get_or s widths_at 0 / 16 % 8 + 1

abbrev pub sequence_width_in : List ℕ → ℕ
sequence_width_in s = get_or s widths_at 0 % 8 + 1

abbrev pub header_length_in : List ℕ → ℕ
header_length_in s = length_of (entity_width_in s) (sequence_width_in s)

-- the header that stands in its bytes
unfoldable pub header_in : List ℕ → PduHeader
header_in s =
    record {
      kind = pdu_type_if (is_set (get_or s 0 0) 16);
      direction = direction_if (is_set (get_or s 0 0) 8);
      mode = mode_if (is_set (get_or s 0 0) 4);
      crc = crc_if (is_set (get_or s 0 0) 2);
      file = file_if (is_set (get_or s 0 0) 1);
      length = number_at s length_at 2;
      control = control_if (is_set (get_or s widths_at 0) 128);
      width = entity_width_in s;
      metadata = metadata_if (is_set (get_or s widths_at 0) 8);
      source = record { 0 = number_at s fixed_length (entity_width_in s) };
      sequence = record { 0 = record { width = sequence_width_in s; value = number_at s (fixed_length + entity_width_in s) (sequence_width_in s) } };
      destination = record { 0 = number_at s (fixed_length + entity_width_in s + sequence_width_in s) (entity_width_in s) };
    }

-- 2: version is not 1
abbrev pub wrong_version : ℕ → Test
wrong_version v = when (not (eqb v version)) (2 ∷ v ∷ [])

-- 'length below 4 (1, needs 4); 2; 3; 4; length below h (1, needs h)'
unfoldable pub reading_header : Staged PduHeader
reading_header = do
  b ← bytes fixed_length
  test (wrong_version (version_in b))
  test (wrong_entity_width (entity_width_in b))
  test (wrong_sequence_width (sequence_width_in b))
  a ← bytes (header_length_in b)
  accept (header_in a)
