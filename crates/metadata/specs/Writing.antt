-- Writing a Metadata PDU (document 02, C-11): its data, the header that is handed back, its refusals in their order, and the lent memory at exit. Names and options go in as bytes.
use Rattle.std.specs.Prelude.{ℕ, ◌+◌, ◌*◌, Bool, true, false, List, [], ◌∷◌, ◌++◌, ltb, length}
use Rattle.fields.specs.BigEndian.{be_bytes}
use Rattle.fields.specs.Answer.{Answer, Test, when}
use Rattle.header.specs.declared.PduHeader.{PduHeader}
use Rattle.header.specs.declared.pdu.PduWritten.{PduWritten}
use Rattle.header.specs.declared.flags.Direction.TheVariants.{TowardsReceiver}
use Rattle.header.specs.Header.{crc_length, with_direction, with_length}
use Rattle.header.specs.Size.{size_width, size_too_large}
use Rattle.header.specs.Pdu.{writing_pdu, pdu_memory}
use Rattle.tlv.specs.declared.Form.TheVariants.{Lv, Tlv}
use Rattle.tlv.specs.Form.{field_bytes}
use Rattle.tlv.specs.Walking.{first_cut}
use Rattle.metadata.specs.declared.MetadataParams.{MetadataParams}
use Rattle.metadata.specs.Metadata.{metadata_code, names_at, type_tests}
use Rattle.metadata.specs.Reading.{option_cut}

abbrev pub closure_bit : Bool → ℕ
closure_bit true = 1
closure_bit false = 0

-- the data through the file size; the spare bits are 0
unfoldable pub fixed_data : MetadataParams → List ℕ
fixed_data p = (metadata_code ∷ (closure_bit p.closure * 64 + p.kind) ∷ []) ++ be_bytes (size_width p.header.file) p.size

-- the names, each with its length in front, and the options
unfoldable pub lent_data : List ℕ → List ℕ → List ℕ → List ℕ
lent_data source destination options = field_bytes Lv 0 source ++ (field_bytes Lv 0 destination ++ options)

unfoldable pub metadata_data : MetadataParams → List ℕ → List ℕ → List ℕ → List ℕ
metadata_data p source destination options = fixed_data p ++ lent_data source destination options

-- d: those bytes, plus 2 with CRC
unfoldable pub metadata_length : MetadataParams → List ℕ → List ℕ → List ℕ → ℕ
metadata_length p source destination options =
    names_at p.header.file + ((1 + length source) + ((1 + length destination) + length options)) + crc_length p.header.crc

-- the header that is handed back: direction 0, towards the receiver; d filled in; the file flag stands
unfoldable pub filled : MetadataParams → List ℕ → List ℕ → List ℕ → PduHeader
filled p source destination options = with_length (metadata_length p source destination options) (with_direction TowardsReceiver p.header)

-- '30; 29'
unfoldable pub fixed_tests : MetadataParams → List Test
fixed_tests p = type_tests p.kind ++ (size_too_large p.header.file p.size ∷ [])

-- 31: name above 255 bytes
abbrev pub name_too_long : List ℕ → Test
name_too_long name = when (ltb 255 (length name)) (31 ∷ [])

-- '31 name above 255 bytes; 25 in the lent options, offset from their start'
unfoldable pub lent_tests : List ℕ → List ℕ → List ℕ → List Test
lent_tests source destination options = name_too_long source ∷ name_too_long destination ∷ option_cut 0 (first_cut Tlv options 0) ∷ []

-- 32: data field above 65,535
abbrev pub data_too_large : ℕ → Test
data_too_large d = when (ltb 65535 d) (32 ∷ [])

unfoldable pub own_tests : MetadataParams → List ℕ → List ℕ → List ℕ → List Test
own_tests p source destination options = fixed_tests p ++ (lent_tests source destination options ++ (data_too_large (metadata_length p source destination options) ∷ []))

-- 'On writing, after 14' and 21: those, 11
unfoldable pub writing_metadata : MetadataParams → List ℕ → List ℕ → List ℕ → ℕ → Answer PduWritten
writing_metadata p source destination options room = writing_pdu (filled p source destination options) (own_tests p source destination options) room

-- the buffer at exit: the PDU's bytes in front, the rest as it was; a refusal changes nothing
unfoldable pub metadata_memory : MetadataParams → List ℕ → List ℕ → List ℕ → List ℕ → List ℕ
metadata_memory p source destination options s =
    pdu_memory (filled p source destination options) (own_tests p source destination options) (metadata_data p source destination options) s
