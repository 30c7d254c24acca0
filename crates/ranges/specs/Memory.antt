-- A state in memory that the caller lends, 516 numbers: the ranges, start and end by turns; from place 512 on how many there are, 1 once there is a first NAK, its source and its sequence number.
use Rattle.std.specs.Prelude.{ℕ, ◌-◌, ◌*◌, Bool, true, Option, Some, None, ◌&&◌, List, [], ◌∷◌, ◌++◌, leb, ltb, eqb, length, get_or, take, replicate, if◌then◌else◌}
use Rattle.ranges.specs.declared.owed.FirstNak.{FirstNak}
use Rattle.ranges.specs.Pairs.{twos}
use Rattle.ranges.specs.Owing.{State, most}

-- where the ranges' count stands, behind room for as many numbers as 256 ranges have
abbrev pub count_at : ℕ
count_at = 512

-- all numbers of a state
abbrev pub state_size : ℕ
state_size = 516

-- ---- what a memory holds

-- so many ranges
abbrev pub ranges_in : List ℕ → List (ℕ × ℕ)
ranges_in m = twos (take (2 * get_or m count_at 0) m)

-- a first NAK, unless its place has 0
unfoldable pub first_in : List ℕ → Option FirstNak
first_in m = if eqb (get_or m 513 0) 0 then None else Some (record { source = get_or m 514 0; sequence = get_or m 515 0 })

-- both
unfoldable pub state_in : List ℕ → State
state_in m = record { ranges = ranges_in m; first = first_in m }

-- each starts below its end, and at or behind the end before, which is e
abbrev pub rises : ℕ → List (ℕ × ℕ) → Bool
rises e [] = true
rises e (p ∷ ps) = leb e p.0 && ltb p.0 p.1 && rises p.1 ps

-- whether it is a state: at most 256 ranges, which rise
unfoldable pub is_state : List ℕ → Bool
is_state m = leb (get_or m count_at 0) most && rises 0 (ranges_in m)

-- ---- the memory of a state

-- 1 and a first NAK, or zeros
abbrev pub first_numbers : Option FirstNak → List ℕ
first_numbers (Some f) = 1 ∷ f.source ∷ f.sequence ∷ []
first_numbers None = 0 ∷ 0 ∷ 0 ∷ []

-- pairs as numbers, start and end by turns
abbrev pub pair_numbers : List (ℕ × ℕ) → List ℕ
pair_numbers [] = []
pair_numbers (p ∷ ps) = p.0 ∷ p.1 ∷ pair_numbers ps

-- with zeros behind its ranges
unfoldable pub memory_of : State → List ℕ
memory_of s = pair_numbers s.ranges ++ (replicate (count_at - 2 * length s.ranges) 0 ++ (length s.ranges ∷ first_numbers s.first))
