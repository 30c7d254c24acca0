-- The request area of a NAK: its pairs, one after the other, and the cursor that walks it.
use Rattle.std.specs.Prelude.{ℕ, zero, suc, ◌+◌, ◌-◌, ◌*◌, ◌/◌, ◌&&◌, List, [], ◌∷◌, leb, eqb, length, take, drop, if◌then◌else◌, Option, Some, None}
use Rattle.fields.specs.BigEndian.{number_at}
use Rattle.header.specs.declared.flags.LargeFileFlag.{LargeFileFlag}
use Rattle.nak.specs.declared.Nak.{Nak}
use Rattle.nak.specs.declared.requests.NextRequest.{NextRequest}
use Rattle.nak.specs.declared.requests.RequestCursor.{RequestCursor}
use Rattle.header.specs.Size.{size_width}
use Rattle.nak.specs.Nak.{pair_size}

-- the bytes from `area` up to `stop`; an area that does not lie in the bytes is empty
unfoldable pub area_of : Nak → List ℕ → List ℕ
area_of n s = if leb n.area n.stop && leb n.stop (length s) then take (n.stop - n.area) (drop n.area s) else []

-- n pairs of numbers of w bytes, from `at` on
abbrev pub pairs_from : ℕ → List ℕ → ℕ → ℕ → List (ℕ × ℕ)
pairs_from w area at zero = []
pairs_from w area at (suc n) = (number_at area at w, number_at area (at + w) w) ∷ pairs_from w area (at + 2 * w) n

-- the whole pairs of an area: 'a part of a pair at its end is never shown as a pair'
unfoldable pub pairs_of : LargeFileFlag → List ℕ → List (ℕ × ℕ)
pairs_of file area = pairs_from (size_width file) area 0 (length area / pair_size file)

-- the whole pairs from a position on
unfoldable pub pairs_left : List ℕ → LargeFileFlag → ℕ → List (ℕ × ℕ)
pairs_left area file at = pairs_from (size_width file) area at ((length area - at) / pair_size file)

-- at a position: a whole pair and the position behind it; 'a position with no whole pair left gives the end'
unfoldable pub next_request : List ℕ → LargeFileFlag → ℕ → Option NextRequest
next_request area file at =
    if leb (at + pair_size file) (length area)
    then Some (record { start = number_at area at (size_width file); end = number_at area (at + size_width file) (size_width file); next = record { at = at + pair_size file } })
    else None

-- where a walk goes on behind what stands at a position; where no whole pair is left it stays
abbrev pub cursor_after : Option NextRequest → RequestCursor → RequestCursor
cursor_after (Some p) cursor = p.next
cursor_after None cursor = cursor

-- 'An empty area has no iterator'
unfoldable pub requests_of : Nak → List ℕ → Option RequestCursor
requests_of n s = if eqb (length (area_of n s)) 0 then None else Some (record { at = 0 })

-- what walking from a position shows, in at most `rounds` steps
abbrev pub step_on : Option NextRequest → (ℕ → List (ℕ × ℕ)) → List (ℕ × ℕ)
step_on (Some p) more = (p.start, p.end) ∷ more p.next.at
step_on None more = []

abbrev pub walk : List ℕ → LargeFileFlag → ℕ → ℕ → List (ℕ × ℕ)
walk area file zero at = []
walk area file (suc rounds) at = step_on (next_request area file at) (walk area file rounds)
