-- The longest ranges of bytes that have one label. Each byte has a label, a number; 0 is the label of a byte that lies in no range.
use Rattle.std.specs.Prelude.{ℕ, zero, suc, ◌+◌, ◌≤◌, ◌<◌, ◌≡◌, ◌&&◌, List, [], ◌∷◌, leb, ltb, eqb, if◌then◌else◌}

-- a range: its first byte, the first byte after it, and the label of its bytes
pub data Run : Type 0 where
  range : ℕ → ℕ → ℕ → Run

-- ranges, with one more in front: it is one with the first of them where they touch and have one label
abbrev pub joined : ℕ → ℕ → ℕ → List Run → List Run
joined from to l [] = range from to l ∷ []
joined from to l (range a b k ∷ rs) = if eqb to a && eqb l k then range from b l ∷ rs else range from to l ∷ range a b k ∷ rs

-- the same, of bytes that may have label 0 and then are no range
unfoldable pub in_front : ℕ → ℕ → ℕ → List Run → List Run
in_front from to l rs = if eqb l 0 then rs else joined from to l rs

-- 'in rising order, the longest ranges': those of the n bytes from `at` on, put together byte by byte from the last
unfoldable pub runs : (ℕ → ℕ) → ℕ → ℕ → List Run
runs label at zero = []
runs label at (suc n) = in_front at (at + 1) (label at) (runs label (at + 1) n)

-- ---- what makes them the longest

-- rising from e on, none empty, none of label 0; and where one touches the one before, which ends at e and has label k, their labels differ
abbrev pub ApartFrom : ℕ → ℕ → List Run → Type 0
ApartFrom e k [] = Unit {0}
ApartFrom e k (range a b l ∷ rs) = (e ≤ a) × (a < b) × (l ≡ 0 → ⊥) × (e ≡ a → k ≡ l → ⊥) × ApartFrom b l rs

-- the label that ranges give a byte
abbrev pub label_in : List Run → ℕ → ℕ
label_in [] b = 0
label_in (range from to l ∷ rs) b = if leb from b && ltb b to then l else label_in rs b
