-- Pairs of offsets, 'read as first byte asked and first byte after', as numbers, and as ranges without their label.
use Rattle.std.specs.Prelude.{ℕ, ◌≤◌, ◌<◌, Bool, false, ◌&&◌, ◌||◌, List, [], ◌∷◌, leb, ltb, if◌then◌else◌}
use Rattle.ranges.specs.Runs.{Run, range}

-- whether a byte lies in one of the pairs
abbrev pub asks : List (ℕ × ℕ) → ℕ → Bool
asks [] b = false
asks (p ∷ ps) b = leb p.0 b && ltb b p.1 || asks ps b

-- 'start below end and each start at or after the previous end', which is e for the first
abbrev pub Rising : ℕ → List (ℕ × ℕ) → Type 0
Rising e [] = Unit {0}
Rising e (p ∷ ps) = (e ≤ p.0) × (p.0 < p.1) × Rising p.1 ps

-- ---- pairs as numbers, and ranges as pairs

-- numbers two by two
abbrev pub twos : List ℕ → List (ℕ × ℕ)
twos [] = []
twos (x ∷ []) = []
twos (x ∷ y ∷ ns) = (x, y) ∷ twos ns

-- ranges as pairs, without their label
abbrev pub spans : List Run → List (ℕ × ℕ)
spans [] = []
spans (range from to l ∷ rs) = (from, to) ∷ spans rs

-- 'Apart means each start below its end, each next start above the end before', which is e
abbrev pub ApartBehind : ℕ → List (ℕ × ℕ) → Type 0
ApartBehind e [] = Unit {0}
ApartBehind e (p ∷ ps) = (e < p.0) × (p.0 < p.1) × ApartBehind p.1 ps

-- the same, of the first pair on, which has none before it
abbrev pub Apart : List (ℕ × ℕ) → Type 0
Apart [] = Unit {0}
Apart (p ∷ ps) = (p.0 < p.1) × ApartBehind p.1 ps

-- bytes that are in, or not, as labels: 1 and 0
abbrev pub in_or_not : (ℕ → Bool) → ℕ → ℕ
in_or_not g b = if g b then 1 else 0
