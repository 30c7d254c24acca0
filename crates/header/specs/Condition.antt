-- Condition codes (CCSDS 727.0-B-5, table 5-5; document 02, C-01): four bits, of which 12 and 13 are reserved.
use Rattle.std.specs.Prelude.{ℕ, Bool, ◌&&◌, ◌||◌, not, [], ◌∷◌, leb}
use Rattle.fields.specs.Answer.{Test, when}

unfoldable pub is_condition : ℕ → Bool
is_condition c = leb c 11 || leb 14 c && leb c 15

-- 16: reserved condition code; one that has more than four bits is none either
abbrev pub reserved_condition : ℕ → Test
reserved_condition c = when (not (is_condition c)) (16 ∷ [])
