-- The fault location of an EOF (CCSDS 727.0-B-5, 5.2.2): nothing, or one entity identifier field: type 6, a length, that many bytes of identifier.
use Rattle.std.specs.Prelude.{ℕ, ◌+◌, ◌-◌, ◌||◌, not, List, [], ◌∷◌, eqb, length, if◌then◌else◌, Option, Some, None}
use Rattle.fields.specs.Width.{is_width}
use Rattle.fields.specs.BigEndian.{be_bytes, number_at}
use Rattle.fields.specs.Answer.{Answer, Test, when, first_of}
use Rattle.header.specs.Judging.{entity_tests}
use Rattle.tlv.specs.declared.Form.TheVariants.{Tlv}
use Rattle.tlv.specs.declared.Field.{Field}
use Rattle.tlv.specs.Form.{head_bytes, field_bytes}
use Rattle.tlv.specs.Reading.{only_field}
use Rattle.eof.specs.declared.fault.EntityIdTlv.{EntityIdTlv}

-- the type of an entity identifier field
abbrev pub entity_id_type : ℕ
entity_id_type = 6

-- ---- reading

abbrev pub width_of : Option Field → ℕ
width_of (Some f) = f.stop - f.start
width_of None = 0

-- the bytes v are one entity identifier field, whose value has so many bytes; 0, which is no width, where they are something else
unfoldable pub field_width : List ℕ → ℕ
field_width v = width_of (only_field Tlv entity_id_type v 0)

-- 28: 'bytes after the file size, up to E, that are not one entity identifier field of an allowed width'
abbrev pub not_a_fault : List ℕ → Test
not_a_fault v = when (not (eqb (length v) 0 || is_width (field_width v))) (28 ∷ [])

-- the fault location that bytes are
unfoldable pub fault_of : List ℕ → Option EntityIdTlv
fault_of v = if eqb (length v) 0 then None else Some (record { width = field_width v; id = record { 0 = number_at v (head_bytes Tlv) (field_width v) } })

unfoldable pub locating : List ℕ → Answer (Option EntityIdTlv)
locating v = first_of (not_a_fault v ∷ []) (fault_of v)

-- ---- writing

abbrev pub fault_bytes : Option EntityIdTlv → List ℕ
fault_bytes (Some t) = field_bytes Tlv entity_id_type (be_bytes t.width t.id.0)
fault_bytes None = []

abbrev pub fault_length : Option EntityIdTlv → ℕ
fault_length (Some t) = head_bytes Tlv + t.width
fault_length None = 0

-- '3 and 14 for the fault location'
abbrev pub fault_tests : Option EntityIdTlv → List Test
fault_tests (Some t) = entity_tests t.width t.id
fault_tests None = []
