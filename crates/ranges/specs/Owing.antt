-- What is owed (document 02, C-13): 'The bytes owed after a prefix of the log are those asked for by a NAK in it and not resent later in that prefix.' The state after entries is the longest ranges of those bytes.
use Rattle.std.specs.Prelude.{ℕ, Bool, false, Option, Some, None, not, ◌&&◌, ◌||◌, List, [], ◌∷◌, ltb, eqb, length}
use Rattle.fields.specs.Answer.{Answer, Test, when, first_of}
use Rattle.ranges.specs.declared.owed.FirstNak.{FirstNak}
use Rattle.ranges.specs.Runs.{runs}
use Rattle.ranges.specs.Pairs.{asks, spans, in_or_not}
use Rattle.ranges.specs.Merging.{largest}
use Rattle.ranges.specs.Order.{others, disorder}

-- an entry of the log: a NAK's source, its sequence number and its pairs; or 'a resent range'
pub data Entry : Type 0 where
  heard : ℕ → ℕ → List (ℕ × ℕ) → Entry
  resent : ℕ × ℕ → Entry

-- ---- byte by byte

-- the ranges that an entry asks for; 'The metadata pair is ignored'
abbrev pub asked : Entry → List (ℕ × ℕ)
asked (heard source sequence ps) = others ps
asked (resent p) = []

-- whether it asks for a byte
abbrev pub asks_for : Entry → ℕ → Bool
asks_for e b = asks (asked e) b

-- whether an entry resends a byte
abbrev pub resends : Entry → ℕ → Bool
resends (heard source sequence ps) b = false
resends (resent p) b = asks (p ∷ []) b

-- whether one of the entries does
abbrev pub resent_by : List Entry → ℕ → Bool
resent_by [] b = false
resent_by (e ∷ es) b = resends e b || resent_by es b

-- 'those asked for by a NAK in it and not resent later'
abbrev pub owes : List Entry → ℕ → Bool
owes [] b = false
owes (e ∷ es) b = asks_for e b && not (resent_by es b) || owes es b

-- the bytes g were owed before an entry: those that are owed after it
abbrev pub owed_after : (ℕ → Bool) → Entry → ℕ → Bool
owed_after g e b = (g b || asks_for e b) && not (resends e b)

-- 'as few as the owed bytes allow': the longest ranges of bytes, in rising order
unfoldable pub ranges_of : (ℕ → Bool) → List (ℕ × ℕ)
ranges_of g = spans (runs (in_or_not g) 0 largest)

-- ---- the state, and one entry

-- the ranges that are owed, and 'the log's first NAK', once there is one
pub record State : Type 0 where
  pub ranges : List (ℕ × ℕ)
  pub first : Option FirstNak

-- before the first entry
abbrev pub fresh : State
fresh = record { ranges = []; first = None }

-- 'at most 256 ranges'
abbrev pub most : ℕ
most = 256

-- the first NAK, once one of that source and sequence number was taken
unfoldable pub first_after : Option FirstNak → ℕ → ℕ → Option FirstNak
first_after (Some f) s q = Some f
first_after None s q = Some (record { source = s; sequence = q })

-- the same of an entry: a resent range has no transaction
abbrev pub first_with : Option FirstNak → Entry → Option FirstNak
first_with f (heard source sequence ps) = first_after f source sequence
first_with f (resent p) = f

-- the state once the entry was taken
unfoldable pub after : State → Entry → State
after s e = record { ranges = ranges_of (owed_after (asks s.ranges) e); first = first_with s.first e }

-- 18: a NAK's first pair out of order; 'also for a resent range whose start is not below its end'
abbrev pub in_order : Entry → Bool
in_order (heard source sequence ps) = eqb (disorder ps) 0
in_order (resent p) = ltb p.0 p.1

-- 19 'against the log's first NAK', in source or sequence number
unfoldable pub differs : Option FirstNak → ℕ → ℕ → Bool
differs (Some f) s q = not (eqb f.source s && eqb f.sequence q)
differs None s q = false

-- the same of an entry
abbrev pub differs_from : Option FirstNak → Entry → Bool
differs_from f (heard source sequence ps) = differs f source sequence
differs_from f (resent p) = false

-- '27 more than 256 ranges owed after the whole entry'
abbrev pub too_many : List (ℕ × ℕ) → Test
too_many ps = when (ltb most (length ps)) (27 ∷ [])

-- an entry at offset `at`: 18, 19, 27; or the state after it
unfoldable pub judging : State → ℕ → Entry → Answer State
judging s at e =
    first_of
    (when (not (in_order e)) (18 ∷ at ∷ [])
    ∷ when (differs_from s.first e) (19 ∷ [])
    ∷ too_many (after s e).ranges
    ∷ [])
    (after s e)
