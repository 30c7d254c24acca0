-- Numbers that have 4 bytes, or 8 with the large file flag (document 01: 'Each number has 4 bytes, or 8 with the large file flag'): offsets and file sizes.
use Rattle.std.specs.Prelude.{ℕ, Bool, not, [], ◌∷◌}
use Rattle.fields.specs.Width.{fits_width}
use Rattle.fields.specs.Answer.{Test, when}
use Rattle.header.specs.declared.flags.LargeFileFlag.{LargeFileFlag}
use Rattle.header.specs.declared.flags.LargeFileFlag.TheVariants.{Normal, Large}

-- the bytes of one number
abbrev pub size_width : LargeFileFlag → ℕ
size_width Normal = 4
size_width Large = 8

-- a number has at most so many bytes
unfoldable pub fits_size : LargeFileFlag → ℕ → Bool
fits_size file v = fits_width (size_width file) v

-- 29: file size above 2^32 - 1 without the large file flag
abbrev pub size_too_large : LargeFileFlag → ℕ → Test
size_too_large file v = when (not (fits_size file v)) (29 ∷ [])
