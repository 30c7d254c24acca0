-- Values with a width in bytes (document 01, `util.rs`): which widths there are, which values fit one, and which fields are equal.
use Rattle.std.specs.Prelude.{ℕ, ◌^◌, Bool, ◌&&◌, eqb, leb, ltb}
use Rattle.std.specs.Int.Count.{ones}
use Rattle.fields.specs.declared.field.UnsignedByteField.{UnsignedByteField}

-- a width is at most 8 and has exactly one bit set: the standard allows every width from 1 to 8; like the Rust, the port has four
unfoldable pub is_width : ℕ → Bool
is_width w = leb w 8 && eqb (ones w) 1

-- v has at most w bytes
unfoldable pub fits_width : ℕ → ℕ → Bool
fits_width w v = ltb v (256 ^ w)

abbrev pub fits_field : UnsignedByteField → Bool
fits_field f = fits_width f.width f.value

-- two values are equal by number, not width
abbrev pub same_value : UnsignedByteField → UnsignedByteField → Bool
same_value f g = eqb f.value g.value
