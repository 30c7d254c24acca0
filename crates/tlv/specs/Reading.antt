-- A field at a place of an area: where its value starts and stops, or that it is cut.
use Rattle.std.specs.Prelude.{ℕ, ◌+◌, ◌-◌, Bool, ◌&&◌, List, [], leb, eqb, length, take, drop, if◌then◌else◌, Option, Some, None, Result, Ok, Err}
use Rattle.fields.specs.BigEndian.{number_at}
use Rattle.tlv.specs.declared.Form.{Form}
use Rattle.tlv.specs.declared.Field.{Field}
use Rattle.tlv.specs.declared.Cut.{Cut}
use Rattle.tlv.specs.Form.{tag_bytes, length_bytes, head_bytes}

-- its type; 0 where the form has none
unfoldable pub tag_at : Form → List ℕ → ℕ → ℕ
tag_at form area at = number_at area at (tag_bytes form)

-- how many bytes it says that its value has
unfoldable pub length_at : Form → List ℕ → ℕ → ℕ
length_at form area at = number_at area (at + tag_bytes form) (length_bytes form)

-- where its value stops, and the next field begins
abbrev pub stop_at : Form → List ℕ → ℕ → ℕ
stop_at form area at = at + head_bytes form + length_at form area at

-- it stops within the area; a head that runs past the end does not, whatever length is read there
unfoldable pub is_whole : Form → List ℕ → ℕ → Bool
is_whole form area at = leb (stop_at form area at) (length area)

abbrev pub field_at : Form → List ℕ → ℕ → Field
field_at form area at = record { tag = tag_at form area at; start = at + head_bytes form; stop = stop_at form area at }

-- cut: the place of its first byte
abbrev pub cut_at : {A : Type 0} → ℕ → Result A Cut
cut_at place = Err (record { at = place })

-- the field at a place; or its head or its value runs past the end: cut, with the place of its first byte
unfoldable pub field_in : Form → List ℕ → ℕ → Result Field Cut
field_in form area at = if is_whole form area at then Ok (field_at form area at) else cut_at at

-- of that type, and up to `stop`
abbrev pub only_if : ℕ → ℕ → Result Field Cut → Option Field
only_if tag stop (Ok f) = if eqb f.tag tag && eqb f.stop stop then Some f else None
only_if tag stop (Err cut) = None

-- the one field of that type that takes all bytes from a place on, or something else
unfoldable pub only_field : Form → ℕ → List ℕ → ℕ → Option Field
only_field form tag area at = only_if tag (length area) (field_in form area at)

-- the bytes from `start` up to `stop`; a value that does not lie in the bytes is empty
unfoldable pub value_of : Field → List ℕ → List ℕ
value_of f s = if leb f.start f.stop && leb f.stop (length s) then take (f.stop - f.start) (drop f.start s) else []

-- what a field shows: its type and its value
abbrev pub shown : List ℕ → Field → ℕ × List ℕ
shown area f = (f.tag, value_of f area)
