-- The pairs of a NAK: the metadata pair is kept apart, and the others must rise.
use Rattle.std.specs.Prelude.{ℕ, ◌+◌, Bool, false, ◌&&◌, List, [], ◌∷◌, leb, ltb, eqb, if◌then◌else◌}

-- 'A first pair 0, 0 asks for metadata'
abbrev pub metadata : List (ℕ × ℕ) → Bool
metadata [] = false
metadata (p ∷ ps) = eqb p.0 0 && eqb p.1 0

-- all pairs but the first
abbrev pub behind_first : List (ℕ × ℕ) → List (ℕ × ℕ)
behind_first [] = []
behind_first (p ∷ ps) = ps

-- 'and is kept apart': the other pairs
abbrev pub others : List (ℕ × ℕ) → List (ℕ × ℕ)
others ps = if metadata ps then behind_first ps else ps

-- the number of the first of them: pairs are counted from 1, the metadata pair too
abbrev pub begin_number : List (ℕ × ℕ) → ℕ
begin_number ps = if metadata ps then 2 else 1

-- 'start below end and each start at or after the previous end', which is e: the number of the first pair of which that is not so, the first pair having the number i; 0 where there is none
abbrev pub out_of_order : ℕ → ℕ → List (ℕ × ℕ) → ℕ
out_of_order i e [] = 0
out_of_order i e (p ∷ ps) = if leb e p.0 && ltb p.0 p.1 then out_of_order (i + 1) p.1 ps else i

-- 'first pair out of order', by its number; 0 where all others rise
unfoldable pub disorder : List (ℕ × ℕ) → ℕ
disorder ps = out_of_order (begin_number ps) 0 (others ps)
