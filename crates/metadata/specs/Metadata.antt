-- The data of a Metadata PDU (CCSDS 727.0-B-5, 5.2.5): directive code 7; a byte with closure requested in bit 6 and the checksum type in the lowest four, the others spare; file size, 4 bytes or 8 with the large file flag; source name and destination name, each a length byte and so many bytes; options up to E, each a type byte, a length byte and so many bytes.
use Rattle.std.specs.Prelude.{ℕ, ◌+◌, ◌/◌, ◌%◌, Bool, ◌||◌, not, List, [], ◌∷◌, leb, eqb, get_or}
use Rattle.fields.specs.BigEndian.{number_at}
use Rattle.fields.specs.Answer.{Test, when}
use Rattle.header.specs.declared.PduHeader.{PduHeader}
use Rattle.header.specs.declared.flags.LargeFileFlag.{LargeFileFlag}
use Rattle.header.specs.Header.{header_length, data_end}
use Rattle.header.specs.Size.{size_width}
use Rattle.tlv.specs.declared.Field.{Field}
use Rattle.tlv.specs.declared.Form.TheVariants.{Lv}
use Rattle.tlv.specs.Reading.{stop_at, field_at, value_of}
use Rattle.metadata.specs.declared.Part.{Part}
use Rattle.metadata.specs.declared.Metadata.{Metadata}
use Rattle.metadata.specs.declared.read.Names.{Names}

-- the code of a Metadata PDU
abbrev pub metadata_code : ℕ
metadata_code = 7

-- where the file size stands, counted from the directive's code
abbrev pub size_at : ℕ
size_at = 2

-- and the names: the bytes through the file size
abbrev pub names_at : LargeFileFlag → ℕ
names_at file = size_at + size_width file

-- ---- checksum types

-- the Rust's list: 0 modular, 1 CRC-32 of Proximity-1, 2 CRC-32C, 3 CRC-32, 15 none
unfoldable pub is_type : ℕ → Bool
is_type kind = leb kind 3 || eqb kind 15

-- 30: checksum type that the Rust's list lacks
abbrev pub type_tests : ℕ → List Test
type_tests kind = when (not (is_type kind)) (30 ∷ []) ∷ []

-- ---- in the data c, counted from the directive's code

abbrev pub closure_in : List ℕ → Bool
closure_in c = eqb (get_or c 1 0 / 64 % 2) 1

abbrev pub type_in : List ℕ → ℕ
type_in c = get_or c 1 0 % 16

-- a field's value, where the bytes that it was read from begin so much further on
abbrev pub moved_by : ℕ → Field → Part
moved_by from f = record { start = from + f.start; stop = from + f.stop }

-- the names, the first at a place, and where the options begin; all places counted from where the data begins
unfoldable pub names_in : ℕ → List ℕ → ℕ → Names
names_in from c at =
    record {
      source = moved_by from (field_at Lv c at);
      destination = moved_by from (field_at Lv c (stop_at Lv c at));
      options = from + stop_at Lv c (stop_at Lv c at);
    }

-- the PDU with that header; its names and its options' area are parts of the bytes that it is read from
unfoldable pub metadata_in : PduHeader → List ℕ → Metadata
metadata_in h c =
    record {
      params = record { header = h; closure = closure_in c; kind = type_in c; size = number_at c size_at (size_width h.file) };
      source = (names_in (header_length h) c (names_at h.file)).source;
      destination = (names_in (header_length h) c (names_at h.file)).destination;
      options = record { start = (names_in (header_length h) c (names_at h.file)).options; stop = data_end h };
    }

-- ---- in the bytes that a PDU was read from

-- a part; one that does not lie in the bytes is empty
unfoldable pub part_of : Part → List ℕ → List ℕ
part_of p s = value_of (record { tag = 0; start = p.start; stop = p.stop }) s
