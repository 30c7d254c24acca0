-- A call of the receiver over a window that the caller keeps, and what it gives as numbers.
use Rattle.std.specs.Prelude.{ℕ, List, [], ◌∷◌}
use Rattle.receiver.specs.Receiving.{state_of, Outcomes, more, nak, refusal, Call, call}
use Rattle.cfdp.specs.Shown.{padded, answer_size, nak_numbers}

-- a call with a fragment, of a window in which so many bytes of the next PDU are
abbrev pub called : List ℕ → ℕ → List ℕ → Call
called window filled fragment = call (state_of window filled) fragment

-- what it gives: 1 for more wanted, which is no refusal of a receiver; else as a reading is shown
abbrev pub outcome_numbers : Outcomes → List ℕ
outcome_numbers more = 1 ∷ []
outcome_numbers (nak n) = 0 ∷ nak_numbers n
outcome_numbers (refusal ns) = ns

unfoldable pub outcome_shown : Outcomes → List ℕ
outcome_shown o = padded answer_size (outcome_numbers o)
