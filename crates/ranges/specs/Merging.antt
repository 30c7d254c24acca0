-- Two lists of pairs beside each other: the longest ranges for which either asks, only one of them, or the first alone.
use Rattle.std.specs.Prelude.{ℕ, Bool, true, false, List}
use Rattle.ranges.specs.declared.merge.Rule.{Rule}
use Rattle.ranges.specs.declared.merge.Rule.TheVariants.{Differ, Either, Without}
use Rattle.ranges.specs.Runs.{Run, runs}
use Rattle.ranges.specs.Pairs.{asks}

-- the largest offset that 64 bits hold: no pair asks for it or for a byte behind it
abbrev pub largest : ℕ
largest = 18446744073709551615

-- the label of a byte for which the first list asks, or not, and the second, or not
abbrev pub label_of : Rule → Bool → Bool → ℕ
label_of Differ true true = 0
label_of Differ true false = 1
label_of Differ false true = 2
label_of Differ false false = 0
label_of Either true q = 1
label_of Either false true = 1
label_of Either false false = 0
label_of Without true true = 0
label_of Without true false = 1
label_of Without false q = 0

-- the same, of the bytes of two lists of pairs
abbrev pub labelling : Rule → List (ℕ × ℕ) → List (ℕ × ℕ) → ℕ → ℕ
labelling rule ps qs b = label_of rule (asks ps b) (asks qs b)

-- the longest ranges, in rising order
unfoldable pub merged : Rule → List (ℕ × ℕ) → List (ℕ × ℕ) → List Run
merged rule ps qs = runs (labelling rule ps qs) 0 largest
