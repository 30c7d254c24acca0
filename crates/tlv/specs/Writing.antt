-- What a write leaves in the lent buffer.
use Rattle.std.specs.Prelude.{ℕ, ◌+◌, ◌&&◌, List, leb, length, if◌then◌else◌}
use Rattle.std.proofs.lemmas.List.Edits.{sets}
use Rattle.fields.specs.BigEndian.{be_bytes}
use Rattle.fields.specs.Width.{fits_width}
use Rattle.tlv.specs.declared.Form.{Form}
use Rattle.tlv.specs.Form.{length_bytes, head_bytes, field_bytes}

-- bytes from a place on; where they do not all lie in the buffer nothing changes
unfoldable pub bytes_put : List ℕ → ℕ → List ℕ → List ℕ
bytes_put s at bytes = if leb (at + length bytes) (length s) then sets s at bytes else s

-- a field's bytes from a place on; where they do not all lie in the buffer, or the value is longer than its length can say, nothing changes
unfoldable pub field_put : Form → List ℕ → ℕ → ℕ → List ℕ → List ℕ
field_put form s at tag value =
    if fits_width (length_bytes form) (length value) && leb (at + (head_bytes form + length value)) (length s)
    then sets s at (field_bytes form tag value)
    else s

-- a field whose value is a number of w bytes; where it does not lie in the buffer, has more than 8 bytes or does not fit them, nothing changes
unfoldable pub number_put : Form → List ℕ → ℕ → ℕ → ℕ → ℕ → List ℕ
number_put form s at tag w v = if leb w 8 && fits_width w v then field_put form s at tag (be_bytes w v) else s
