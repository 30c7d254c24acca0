-- Numbers as bytes, the most significant first, once over the width: the number that bytes are, the bytes of a number, and a number read from and written to a place.
use Rattle.std.specs.Prelude.{ℕ, zero, suc, ◌+◌, ◌*◌, ◌/◌, ◌%◌, ◌<◌, Bool, ◌&&◌, List, [], ◌∷◌, ◌++◌, leb, length, get_or, take, drop, if◌then◌else◌}
use Rattle.fields.specs.Width.{fits_width}

-- each element is a byte
abbrev pub Bytes : List ℕ → Type 0
Bytes s = (i : ℕ) → get_or s i 0 < 256

-- the number that bytes are, after those that are v
unfoldable pub be_from : ℕ → List ℕ → ℕ
be_from v [] = v
be_from v (b ∷ bs) = be_from (v * 256 + b) bs

unfoldable pub be_value : List ℕ → ℕ
be_value bs = be_from 0 bs

-- the lowest w bytes of v
unfoldable pub be_bytes : ℕ → ℕ → List ℕ
be_bytes zero v = []
be_bytes (suc w) v = be_bytes w (v / 256) ++ (v % 256 ∷ [])

-- the number that the w bytes from `at` are
unfoldable pub number_at : List ℕ → ℕ → ℕ → ℕ
number_at s at w = be_value (take w (drop at s))

-- s with v in the w bytes from `at`
unfoldable pub overwritten : List ℕ → ℕ → ℕ → ℕ → List ℕ
overwritten s at w v = take at s ++ (be_bytes w v ++ drop (at + w) s)

-- the w bytes from `at` are at most 8, and all of them lie within n
unfoldable pub lies_in : ℕ → ℕ → ℕ → Bool
lies_in n at w = leb w 8 && leb (at + w) n

-- reading at any place: what does not lie in s, or is wider than 8 bytes, reads as 0
unfoldable pub be_at : List ℕ → ℕ → ℕ → ℕ
be_at s at w = if lies_in (length s) at w then number_at s at w else 0

-- writing at any place: where the bytes do not lie in s, are more than 8, or cannot hold v, nothing changes
unfoldable pub be_put : List ℕ → ℕ → ℕ → ℕ → List ℕ
be_put s at w v = if lies_in (length s) at w && fits_width w v then overwritten s at w v else s
