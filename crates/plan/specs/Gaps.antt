-- How the code reads lent numbers, as arrays, and finds the missing ranges, as the gaps between received ranges.
use Rattle.std.specs.Prelude.{ℕ, Bool, true, false, ◌&&◌, List, [], ◌∷◌, map, leb, ltb, eqb, if◌then◌else◌, get_or}
use Rattle.plan.specs.Plans.{PlannedNak}

-- arrays of two numbers, as pairs
abbrev pub pairs : List (List ℕ) → List (ℕ × ℕ)
pairs cs = map (λ c. (get_or c 0 0, get_or c 1 0)) cs

-- arrays of three numbers, as the NAKs of a plan
abbrev pub naks_of : List (List ℕ) → List PlannedNak
naks_of cs = map (λ c. record { start = get_or c 0 0; end = get_or c 1 0; count = get_or c 2 0 }) cs

-- a stretch in front of ranges, unless it is empty
abbrev pub front : ℕ → ℕ → List (ℕ × ℕ) → List (ℕ × ℕ)
front from to rs = if ltb from to then (from, to) ∷ rs else rs

-- the gaps between apart ranges, from `at` up to `stop`
unfoldable pub gaps : ℕ → ℕ → List (ℕ × ℕ) → List (ℕ × ℕ)
gaps at stop [] = front at stop []
gaps at stop (p ∷ ps) = front at (if leb stop p.0 then stop else p.0) (gaps (if leb at p.1 then p.1 else at) stop ps)

-- whether two lists have the same pairs
abbrev pub same_pairs : List (ℕ × ℕ) → List (ℕ × ℕ) → Bool
same_pairs [] [] = true
same_pairs [] (q ∷ qs) = false
same_pairs (p ∷ ps) [] = false
same_pairs (p ∷ ps) (q ∷ qs) = eqb p.0 q.0 && eqb p.1 q.1 && same_pairs ps qs
