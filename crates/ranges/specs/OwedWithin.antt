-- What the functions of the log promise each other. No public promise cites this file.
use Rattle.std.specs.Prelude.{ℕ, Option, Some, None, List, [], ◌∷◌, set}
use Rattle.fields.specs.Answer.{Answer, accepted, and_then, first_of}
use Rattle.fields.specs.Staged.{run}
use Rattle.nak.specs.Reading.{reading_nak}
use Rattle.ranges.specs.declared.merge.Rule.{Rule}
use Rattle.ranges.specs.declared.owed.FirstNak.{FirstNak}
use Rattle.ranges.specs.Pairs.{spans}
use Rattle.ranges.specs.Merging.{merged}
use Rattle.ranges.specs.Owing.{State, too_many, judging}
use Rattle.ranges.specs.Memory.{count_at, ranges_in, state_in}
use Rattle.ranges.specs.Log.{heard_of, resent_of, contents_of}

-- a memory with a count and a first NAK behind its ranges; where there is none, zeros stay zeros
abbrev pub head_put : List ℕ → ℕ → Option FirstNak → List ℕ
head_put m n (Some f) = set (set (set (set m count_at n) 513 1) 514 f.source) 515 f.sequence
head_put m n None = set m count_at n

-- the memory's ranges merged with an entry's pairs: 27, or the new state
unfoldable pub owing_with : Rule → Option FirstNak → List (ℕ × ℕ) → List ℕ → Answer State
owing_with rule first qs m =
    first_of
    (too_many (spans (merged rule (ranges_in m) qs)) ∷ [])
    (record { ranges = spans (merged rule (ranges_in m) qs); first = first })

-- what is answered of a NAK's contents
unfoldable pub heard_in : ℕ → List ℕ → List ℕ → Answer State
heard_in at c m = and_then (run reading_nak c) (λ n. judging (state_in m) at (heard_of n c))

-- of a resent range's
unfoldable pub resent_in : ℕ → List ℕ → List ℕ → Answer State
resent_in at c m = judging (state_in m) at (resent_of c)

-- and of those of a tag
unfoldable pub contents_taken : ℕ → ℕ → List ℕ → List ℕ → Answer State
contents_taken at tag c m = and_then (contents_of at tag c) (judging (state_in m) at)

-- the answer alone
abbrev pub judged_only : Answer State → Answer (Unit {0})
judged_only o = and_then o (λ _. accepted tt)
