-- The fields of an area, one behind the other; the cursor that walks them; and where the first one lies that is cut.
use Rattle.std.specs.Prelude.{ℕ, zero, suc, List, [], ◌∷◌, map, leb, length, if◌then◌else◌, Option, Some, None, Result, Ok}
use Rattle.tlv.specs.declared.Form.{Form}
use Rattle.tlv.specs.declared.Field.{Field}
use Rattle.tlv.specs.declared.Cut.{Cut}
use Rattle.tlv.specs.declared.walk.NextField.{NextField}
use Rattle.tlv.specs.Reading.{stop_at, is_whole, field_at, cut_at, shown}

-- the whole fields from a place on, at most n
unfoldable pub fields_from : ℕ → Form → List ℕ → ℕ → List Field
fields_from zero form area at = []
fields_from (suc n) form area at = if is_whole form area at then field_at form area at ∷ fields_from n form area (stop_at form area at) else []

-- all of them: each has a byte at least, so an area has no more fields than bytes
unfoldable pub fields_of : Form → List ℕ → ℕ → List Field
fields_of form area at = fields_from (length area) form area at

-- what they show
abbrev pub shown_from : Form → List ℕ → ℕ → List (ℕ × List ℕ)
shown_from form area at = map (shown area) (fields_of form area at)

-- where the last of them stops; with none, where they began
unfoldable pub last_stop : ℕ → List Field → ℕ
last_stop at [] = at
last_stop at (f ∷ fs) = last_stop f.stop fs

-- up to where whole fields reach
unfoldable pub reach : Form → List ℕ → ℕ → ℕ
reach form area at = last_stop at (fields_of form area at)

-- the field behind them is cut, unless they reach the area's end
unfoldable pub first_cut : Form → List ℕ → ℕ → Result (Unit {0}) Cut
first_cut form area at = if leb (length area) (reach form area at) then Ok tt else cut_at (reach form area at)

-- at a position: a whole field and the position behind it; at the area's end, and beyond, the end; else a field that is cut
unfoldable pub next_field : Form → List ℕ → ℕ → Result (Option NextField) Cut
next_field form area at =
    if leb (length area) at
    then Ok None
    else if is_whole form area at then Ok (Some (record { field = field_at form area at; next = record { at = stop_at form area at } })) else cut_at at
