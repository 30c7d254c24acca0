-- The check of a plan (document 02, C-09): its refusals in their order, and its answer.
use Rattle.std.specs.Prelude.{ℕ, Bool, ◌&&◌, not, List, [], ◌∷◌, leb, length}
use Rattle.fields.specs.Answer.{Answer, accepted, and_then, Test, when, first_of}
use Rattle.header.specs.declared.PduHeader.{PduHeader}
use Rattle.header.specs.declared.flags.LargeFileFlag.{LargeFileFlag}
use Rattle.nak.specs.Writing.{odd_count, scope_too_large}
use Rattle.nak.specs.Counting.{most_requests}
use Rattle.ranges.specs.Pairs.{twos}
use Rattle.plan.specs.Missing.{apart}
use Rattle.plan.specs.Plans.{accepts_numbers}

-- 23: 'received ranges or scope out of order'
abbrev pub out_of_order : List (ℕ × ℕ) → ℕ → ℕ → Test
out_of_order received start end = when (not (apart received && leb start end)) (23 ∷ [])

-- '12 for ranges, then plan; 23 received ranges or scope out of order; 9'
unfoldable pub plan_tests : LargeFileFlag → List ℕ → ℕ → ℕ → ℕ → List Test
plan_tests file received start end requests =
    odd_count (length received)
    ∷ odd_count requests
    ∷ out_of_order (twos received) start end
    ∷ scope_too_large file start end
    ∷ []

-- 'those of C-08', and then those; else C-08's answer
unfoldable pub judging_plan : PduHeader → ℕ → List ℕ → ℕ → ℕ → ℕ → Answer ℕ
judging_plan h size received start end requests = and_then (most_requests h size) (λ most. first_of (plan_tests h.file received start end requests) most)

-- whether the plan is accepted
unfoldable pub checking_plan : PduHeader → ℕ → List ℕ → ℕ → ℕ → List ℕ → List ℕ → Answer Bool
checking_plan h size received start end requests naks =
    and_then (judging_plan h size received start end (length requests)) (λ most. accepted (accepts_numbers most received start end requests naks))
