-- Where pairs stand: in the bytes of a request area or in lent numbers, and those of them that are still to come.
use Rattle.std.specs.Prelude.{ℕ, ◌≡◌, List, leb, length, drop, if◌then◌else◌}
use Rattle.nak.specs.declared.iter.SegmentRequestIter.{SegmentRequestIter}
use Rattle.nak.specs.Requests.{pairs_left, next_request, cursor_after}
use Rattle.ranges.specs.declared.side.Source.{Source}
use Rattle.ranges.specs.declared.side.Source.TheVariants.{Area, Numbers}
use Rattle.ranges.specs.Pairs.{twos}

-- those that the reader of an area has before it
abbrev pub requests_ahead : SegmentRequestIter → List (ℕ × ℕ)
requests_ahead r = pairs_left r.area.now r.file r.cursor.at

-- the pairs of a source that are still to come
abbrev pub pairs_in : Source → List (ℕ × ℕ)
pairs_in (Area requests) = requests_ahead requests
pairs_in (Numbers numbers) = twos numbers.now

-- what a source is once its next pair was shown: the reader at the next place of its area, or the numbers behind the pair; with no pair left
-- it stays
abbrev pub GoesOn : Source → Source → Type 0
GoesOn (Area r) (Area t) = (t.cursor ≡ cursor_after (next_request r.area.now r.file r.cursor.at) r.cursor) × (t.area ≡ r.area) × (t.file ≡ r.file)
GoesOn (Numbers s) (Numbers t) = t.now ≡ (if leb 2 (length s.now) then drop 2 s.now else s.now)
GoesOn (Area r) (Numbers t) = ⊥
GoesOn (Numbers s) (Area t) = ⊥
