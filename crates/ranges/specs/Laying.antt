-- Ranges as lent numbers: two for each, or three with its label.
use Rattle.std.specs.Prelude.{ℕ, Bool, true, false, List, [], ◌∷◌, ◌++◌}
use Rattle.ranges.specs.Runs.{Run, range}

-- how many numbers one range has
abbrev pub wide : Bool → ℕ
wide true = 3
wide false = 2

-- the numbers of one range: its first byte, the first byte after it, and its label where that is kept
abbrev pub numbers_of : Bool → Run → List ℕ
numbers_of true (range from to l) = from ∷ to ∷ l ∷ []
numbers_of false (range from to l) = from ∷ to ∷ []

-- ranges, one behind the other
abbrev pub flat : Bool → List Run → List ℕ
flat labelled [] = []
flat labelled (r ∷ rs) = numbers_of labelled r ++ flat labelled rs
