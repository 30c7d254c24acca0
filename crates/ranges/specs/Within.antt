-- What the functions of this crate promise each other, by the definitions of the other files. No public promise cites this file.
use Rattle.std.specs.Prelude.{ℕ, ◌+◌, ◌*◌, ◌/◌, ◌≡◌, Bool, false, Option, Some, None, Result, Ok, Err, List, [], ◌∷◌, leb, ltb, eqb, length, if◌then◌else◌}
use Rattle.std.proofs.lemmas.List.Edits.{sets}
use Rattle.fields.specs.declared.refusal.Refusal.{Refusal}
use Rattle.fields.specs.declared.refusal.Refusal.TheVariants.{PairOutOfOrder}
use Rattle.fields.specs.Answer.{Answer, and_then}
use Rattle.fields.specs.Staged.{run}
use Rattle.nak.specs.declared.Nak.{Nak}
use Rattle.nak.specs.Reading.{reading_nak}
use Rattle.ranges.specs.declared.side.Side.{Side}
use Rattle.ranges.specs.declared.order.Asked.{Asked}
use Rattle.ranges.specs.declared.tape.Open.{Open}
use Rattle.ranges.specs.Runs.{Run, range}
use Rattle.ranges.specs.Sources.{pairs_in}
use Rattle.ranges.specs.Order.{metadata, others, disorder}
use Rattle.ranges.specs.Merging.{largest}
use Rattle.ranges.specs.Laying.{wide, numbers_of}
use Rattle.ranges.specs.Transaction.{same_transaction}
use Rattle.ranges.specs.Differing.{Compared, requests_in, comparing_pairs}

-- ---- what a source's pairs ask for

-- the number of the first pair out of order, or none: then the answer of `out_of_order` is 0
abbrev pub number_or_none : Option ℕ → ℕ → Type 0
number_or_none None w = w ≡ 0
number_or_none (Some i) w = (i ≡ w) × (w ≡ 0 → ⊥)

-- what an area's pairs ask for, where all but the metadata pair rise; or the number of the first out of order
abbrev pub AsksOrWrong : Result Asked ℕ → List (ℕ × ℕ) → Type 0
AsksOrWrong (Ok a) ps = (a.metadata ≡ metadata ps) × (pairs_in a.others ≡ others ps) × (disorder ps ≡ 0)
AsksOrWrong (Err i) ps = (i ≡ disorder ps) × (disorder ps ≡ 0 → ⊥)

-- the same of one file beside another, which the refusal names
abbrev pub AsksOrRefused : ℕ → Result Asked Refusal → List (ℕ × ℕ) → Type 0
AsksOrRefused file (Ok a) ps = AsksOrWrong (Ok a) ps
AsksOrRefused file (Err e) ps = (e ≡ PairOutOfOrder file (disorder ps)) × (disorder ps ≡ 0 → ⊥)

-- ---- two lists walked together

-- the pair that a side looks at, and those behind it
abbrev pub in_line : Option (ℕ × ℕ) → List (ℕ × ℕ) → List (ℕ × ℕ)
in_line (Some p) ps = p ∷ ps
in_line None ps = []

abbrev pub ahead : Side → List (ℕ × ℕ)
ahead s = in_line s.pair (pairs_in s.rest)

-- where a side changes next, seen from a place before its first pair's end; with no pair left, at the end of all offsets
abbrev pub edge : ℕ → List (ℕ × ℕ) → ℕ
edge at [] = largest
edge at (p ∷ ps) = if leb p.0 at then p.1 else p.0

-- whether its first pair asks for the byte at such a place
abbrev pub begun : ℕ → List (ℕ × ℕ) → Bool
begun at [] = false
begun at (p ∷ ps) = leb p.0 at

-- a side at a place that its first pair's end may be: behind that end the next pair is taken
abbrev pub passed : ℕ → List (ℕ × ℕ) → List (ℕ × ℕ)
passed at [] = []
passed at (p ∷ ps) = if eqb p.1 at then ps else p ∷ ps

-- ---- ranges stored

-- a range in the place of index i, if the numbers have that place
unfoldable pub placed : Bool → List ℕ → ℕ → Run → List ℕ
placed labelled s i r = if ltb i (length s / wide labelled) then sets s (wide labelled * i) (numbers_of labelled r) else s

-- ranges in the places from index i on, as many as there are places for
abbrev pub laid : Bool → List ℕ → ℕ → List Run → List ℕ
laid labelled s i [] = s
laid labelled s i (r ∷ rs) = laid labelled (placed labelled s i r) (i + 1) rs

-- a range that is finished, in front; label 0 is no range
unfoldable pub closed : ℕ → ℕ → ℕ → List Run → List Run
closed from to l rs = if eqb l 0 then rs else range from to l ∷ rs

-- whether a label is that of a range: 0 or 1
unfoldable pub closing : ℕ → ℕ
closing l = if eqb l 0 then 0 else 1

-- the numbers once the open range is closed at `at`
unfoldable pub closed_into : Bool → List ℕ → Open → ℕ → List ℕ
closed_into labelled s o at = laid labelled s o.count (closed o.from at o.label [])

-- the range that is open where bytes of a label begin
unfoldable pub turned_open : Open → ℕ → ℕ → Open
turned_open o at l = if eqb o.label l then o else record { from = at; label = l; count = o.count + closing o.label }

-- and the numbers then
unfoldable pub turned_into : Bool → List ℕ → Open → ℕ → ℕ → List ℕ
turned_into labelled s o at l = if eqb o.label l then s else closed_into labelled s o at

-- ---- two NAKs compared

-- comparing, of a first NAK that was read from s
unfoldable pub comparing_read : Nak → List ℕ → List ℕ → ℕ → Answer Compared
comparing_read m s t room = and_then (run reading_nak t) (λ n. comparing_pairs (same_transaction m.header n.header) (requests_in m s) (requests_in n t) room)
