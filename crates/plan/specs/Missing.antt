-- The bytes that are missing (document 02, C-09): those of the whole scope that lie in no received range. A range is a pair, first byte and first byte after.
use Rattle.std.specs.Prelude.{ℕ, zero, suc, Bool, true, false, ◌&&◌, not, List, [], ◌∷◌, leb, ltb}
use Rattle.ranges.specs.Runs.{runs}
use Rattle.ranges.specs.Pairs.{asks, spans, in_or_not}

-- whether a byte is missing: it lies in the scope from start to end, and in no received range
abbrev pub missing : List (ℕ × ℕ) → ℕ → ℕ → ℕ → Bool
missing received start end b = leb start b && ltb b end && not (asks received b)

-- 'Apart means each start below its end, each next start above the end before', which is e
abbrev pub apart_behind : ℕ → List (ℕ × ℕ) → Bool
apart_behind e [] = true
apart_behind e (p ∷ ps) = ltb e p.0 && ltb p.0 p.1 && apart_behind p.1 ps

-- before the first there is no end
abbrev pub apart : List (ℕ × ℕ) → Bool
apart [] = true
apart (p ∷ ps) = ltb p.0 p.1 && apart_behind p.1 ps

-- f holds of every byte below n
unfoldable pub every_byte : ℕ → (ℕ → Bool) → Bool
every_byte zero f = true
every_byte (suc n) f = every_byte n f && f n

-- two answers are one
abbrev pub same : Bool → Bool → Bool
same true d = d
same false d = not d

-- the missing ranges: the longest ranges of missing bytes, in rising order
unfoldable pub missing_ranges : List (ℕ × ℕ) → ℕ → ℕ → List (ℕ × ℕ)
missing_ranges received start end = spans (runs (in_or_not (missing received start end)) 0 end)
