-- A field that says its own length: whether a type stands in front, how many bytes the length has, and the bytes of a field.
use Rattle.std.specs.Prelude.{ℕ, ◌+◌, List, [], ◌∷◌, ◌++◌, length}
use Rattle.fields.specs.BigEndian.{be_bytes}
use Rattle.tlv.specs.declared.Form.{Form}
use Rattle.tlv.specs.declared.Form.TheVariants.{Lv, Tlv, LongTlv}

-- the bytes of the type, which stands in front
abbrev pub tag_bytes : Form → ℕ
tag_bytes Lv = 0
tag_bytes Tlv = 1
tag_bytes LongTlv = 1

-- the bytes of the length, which stands behind it
abbrev pub length_bytes : Form → ℕ
length_bytes Lv = 1
length_bytes Tlv = 1
length_bytes LongTlv = 2

-- the head: all that stands before the value
abbrev pub head_bytes : Form → ℕ
head_bytes form = tag_bytes form + length_bytes form

unfoldable pub head_of : Form → ℕ → ℕ → List ℕ
head_of form tag size = be_bytes (tag_bytes form) tag ++ be_bytes (length_bytes form) size

unfoldable pub field_bytes : Form → ℕ → List ℕ → List ℕ
field_bytes form tag value = head_of form tag (length value) ++ value

-- fields, each a type and a value, one behind the other
unfoldable pub fields_bytes : Form → List (ℕ × List ℕ) → List ℕ
fields_bytes form [] = []
fields_bytes form (f ∷ fs) = field_bytes form f.0 f.1 ++ fields_bytes form fs
