-- Small cases, computed.
-- Assumes nothing.
use mathlib.Core.Path.{◌≡◌, refl}
use mathlib.Core.Bool.{false}
use mathlib.Core.List.{[], ◌∷◌}
use Rattle.ranges.specs.Runs.{runs, in_front}
use Rattle.plan.specs.Missing.{apart, missing_ranges}
use Rattle.plan.specs.Plans.{threes, each_within, scopes_join, nak_numbers}
use Rattle.plan.specs.Planning.{naks_for, dealt}

-- received 2..4 and 6..7 of 0..10; a range that reaches out of the scope
missed : missing_ranges ((2, 4) ∷ (6, 7) ∷ []) 0 10 ≡ (0, 2) ∷ (4, 6) ∷ (7, 10) ∷ []
unfolding missing_ranges runs in_front
missed = refl

missed_out : missing_ranges ((0, 4) ∷ (8, 12) ∷ []) 2 10 ≡ (4, 8) ∷ []
unfolding missing_ranges runs in_front
missed_out = refl

missed_none : missing_ranges ((1, 9) ∷ []) 2 6 ≡ []
unfolding missing_ranges runs in_front
missed_none = refl

-- three ranges, two requests to a NAK
planned : nak_numbers (dealt (naks_for 3 2) 2 3 0 10 ((0, 2) ∷ (4, 6) ∷ (7, 10) ∷ [])) ≡ 0 ∷ 6 ∷ 2 ∷ 6 ∷ 10 ∷ 1 ∷ []
unfolding dealt
planned = refl

-- touching ranges are not apart; a scope that is left out; a request in the next NAK's scope
touching : apart ((0, 2) ∷ (2, 4) ∷ []) ≡ false
touching = refl

gap_of_scopes : scopes_join 0 10 (threes (0 ∷ 5 ∷ 1 ∷ 6 ∷ 10 ∷ 1 ∷ [])) ≡ false
gap_of_scopes = refl

outside : each_within (threes (0 ∷ 5 ∷ 2 ∷ 5 ∷ 10 ∷ 1 ∷ [])) ((0, 2) ∷ (4, 6) ∷ (7, 10) ∷ []) ≡ false
outside = refl

left_over : each_within (threes (0 ∷ 10 ∷ 2 ∷ [])) ((0, 2) ∷ (4, 6) ∷ (7, 10) ∷ []) ≡ false
left_over = refl
