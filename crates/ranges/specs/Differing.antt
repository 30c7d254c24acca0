-- Two NAKs beside each other (document 02, C-03): 'which bytes only one asked for'.
use Rattle.std.specs.Prelude.{ℕ, ◌/◌, Bool, true, not, List, [], ◌∷◌, ltb, eqb, length}
use Rattle.fields.specs.Answer.{Answer, accepted, and_then, Test, when, first_of, leaves}
use Rattle.fields.specs.Staged.{run}
use Rattle.nak.specs.declared.Nak.{Nak}
use Rattle.nak.specs.Reading.{reading_nak}
use Rattle.nak.specs.Requests.{area_of, pairs_of}
use Rattle.ranges.specs.declared.merge.Rule.TheVariants.{Differ}
use Rattle.ranges.specs.declared.differ.Differences.{Differences}
use Rattle.ranges.specs.Runs.{Run}
use Rattle.ranges.specs.Merging.{merged}
use Rattle.ranges.specs.Laying.{flat}
use Rattle.ranges.specs.Order.{metadata, others, disorder}
use Rattle.ranges.specs.Transaction.{same_transaction}

-- ---- what two NAKs differ in

-- 'the longest ranges asked for by only one side', in rising order, each with its 'side 1 or 2'
unfoldable pub differences : List (ℕ × ℕ) → List (ℕ × ℕ) → List Run
differences ps qs = merged Differ (others ps) (others qs)

-- 'which sides have' the metadata pair, and the ranges
pub record Compared : Type 0 where
  pub first : Bool
  pub second : Bool
  pub ranges : List Run

abbrev pub compared : List (ℕ × ℕ) → List (ℕ × ℕ) → Compared
compared ps qs = record { first = metadata ps; second = metadata qs; ranges = differences ps qs }

-- ---- the refusals

-- 18: 'first pair out of order, with file and pair, from 1'
abbrev pub pair_out_of_order : ℕ → List (ℕ × ℕ) → Test
pair_out_of_order file ps = when (not (eqb (disorder ps) 0)) (18 ∷ file ∷ disorder ps ∷ [])

-- 19: 'transactions differ'
abbrev pub transactions_differ : Bool → Test
transactions_differ same = when (not same) (19 ∷ [])

-- 20: 'no room, exactly when the ranges outnumber the whole threes lent'
abbrev pub no_room : ℕ → List Run → Test
no_room room rs = when (ltb (room / 3) (length rs)) (20 ∷ [])

-- of the pairs of two NAKs, which belong to one transaction or not, with so many numbers lent
unfoldable pub comparing_pairs : Bool → List (ℕ × ℕ) → List (ℕ × ℕ) → ℕ → Answer Compared
comparing_pairs same ps qs room =
    first_of (pair_out_of_order 1 ps ∷ pair_out_of_order 2 qs ∷ transactions_differ same ∷ no_room room (differences ps qs) ∷ []) (compared ps qs)

-- the pairs of a NAK that was read from those bytes
abbrev pub requests_in : Nak → List ℕ → List (ℕ × ℕ)
requests_in n s = pairs_of n.header.file (area_of n s)

-- 'those of reading, first file first', then these
unfoldable pub comparing : List ℕ → List ℕ → ℕ → Answer Compared
comparing s t room =
    and_then (run reading_nak s) (λ m.
    and_then (run reading_nak t) (λ n.
    comparing_pairs (same_transaction m.header n.header) (requests_in m s) (requests_in n t) room))

-- ---- what is answered, and the lent numbers at exit

-- the ranges as their number
abbrev pub counted : Compared → Differences
counted c = record { first = c.first; second = c.second; ranges = length c.ranges }

-- the ranges 'into lent numbers, three for each: start, end, side'
abbrev pub threes : Compared → List ℕ
threes c = flat true c.ranges

unfoldable pub differing : List ℕ → List ℕ → ℕ → Answer Differences
differing s t room = and_then (comparing s t room) (λ c. accepted (counted c))

-- the ranges in front, the numbers behind them as they were; a refusal changes none
unfoldable pub differ_memory : List ℕ → List ℕ → List ℕ → List ℕ
differ_memory s t lent = leaves (comparing s t (length lent)) threes lent
