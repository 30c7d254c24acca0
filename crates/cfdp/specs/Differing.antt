-- The comparison of two NAKs as numbers.
use Rattle.std.specs.Prelude.{ℕ, Bool, true, false, List, [], ◌∷◌}
use Rattle.ranges.specs.declared.differ.Differences.{Differences}

-- whether a NAK asks for metadata: 1 or 0
abbrev pub asked : Bool → ℕ
asked true = 1
asked false = 0

-- whether the first asks for metadata, whether the second does, how many ranges only one of them asks for
abbrev pub differ_numbers : Differences → List ℕ
differ_numbers d = asked d.first ∷ asked d.second ∷ d.ranges ∷ []
