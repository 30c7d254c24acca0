-- The pairs of a request area as numbers: one of them by its index, and as many as there is room for.
use Rattle.std.specs.Prelude.{ℕ, ◌/◌, Bool, List, [], ◌∷◌, ◌++◌, ltb, length, get_or, take, drop}
use Rattle.header.specs.Flags.{file_if}
use Rattle.nak.specs.Requests.{pairs_of}
use Rattle.nak.specs.Cases.{flat}

-- the whole pairs of an area whose numbers have 8 bytes, or 4
abbrev pub pairs_in : Bool → List ℕ → List (ℕ × ℕ)
pairs_in large area = pairs_of (file_if large) area

-- whether there is a whole pair of that index
abbrev pub is_pair : Bool → List ℕ → ℕ → Bool
is_pair large area i = ltb i (length (pairs_in large area))

-- its start and end, and two zeros where there is none
abbrev pub pair_at : Bool → List ℕ → ℕ → List ℕ
pair_at large area i = (get_or (pairs_in large area) i (0, 0)).0 ∷ (get_or (pairs_in large area) i (0, 0)).1 ∷ []

-- the pairs that have room in so many numbers
abbrev pub copied : Bool → List ℕ → ℕ → List (ℕ × ℕ)
copied large area room = take (room / 2) (pairs_in large area)

-- the numbers at exit: start and end by turns, the rest as it was
abbrev pub copied_into : Bool → List ℕ → List ℕ → List ℕ
copied_into large area ns = flat (copied large area (length ns)) ++ drop (length (flat (copied large area (length ns)))) ns
