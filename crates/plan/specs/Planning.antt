-- The planner (document 02, C-09): its plan, its refusals, its answer, and the lent numbers at exit.
use Rattle.std.specs.Prelude.{ℕ, zero, suc, ◌+◌, ◌-◌, ◌/◌, ◌&&◌, ◌||◌, not, List, [], ◌∷◌, ltb, eqb, length, drop}
use Rattle.fields.specs.Answer.{Answer, accepted, and_then, Test, when, first_of, leaves}
use Rattle.header.specs.declared.PduHeader.{PduHeader}
use Rattle.ranges.specs.Pairs.{twos}
use Rattle.plan.specs.declared.planner.Planned.{Planned}
use Rattle.plan.specs.Missing.{missing_ranges}
use Rattle.plan.specs.Plans.{PlannedNak, Plan, pair_numbers, nak_numbers}
use Rattle.plan.specs.Checking.{judging_plan}

-- ---- its plan

-- 'the number of ranges divided by C-08's answer, rounded up'
abbrev pub naks_for : ℕ → ℕ → ℕ
naks_for ranges most = (ranges + most - 1) / most

-- where the first of these requests ends
abbrev pub first_end : List (ℕ × ℕ) → ℕ
first_end [] = 0
first_end (p ∷ ps) = p.1

-- the end of the request of that number, from 1
abbrev pub end_of : ℕ → List (ℕ × ℕ) → ℕ
end_of k ps = first_end (drop (k - 1) ps)

-- n NAKs for `left` requests, `most` to each and to the last what is left. Each scope starts where the one before ends, and ends with its last request; the last ends with the whole scope
unfoldable pub dealt : ℕ → ℕ → ℕ → ℕ → ℕ → List (ℕ × ℕ) → List PlannedNak
dealt zero most left at end ps = []
dealt (suc zero) most left at end ps = record { start = at; end = end; count = left } ∷ []
dealt (suc (suc n)) most left at end ps = record { start = at; end = end_of most ps; count = most } ∷ dealt (suc n) most (left - most) (end_of most ps) end (drop most ps)

-- 'one request for each missing range'
unfoldable pub plan_of : ℕ → ℕ → ℕ → List (ℕ × ℕ) → Plan
plan_of most start end ranges = record { requests = ranges; naks = dealt (naks_for (length ranges) most) most (length ranges) start end ranges }

-- ---- its refusals

-- 24: 'a byte is missing and no request fits'
abbrev pub none_fits : ℕ → ℕ → Test
none_fits most ranges = when (not (eqb ranges 0) && eqb most 0) (24 ∷ [])

-- 20: 'no room for the plan, exactly when that many requests or NAKs exceed it'
abbrev pub no_room : ℕ → ℕ → ℕ → ℕ → Test
no_room most ranges requests naks = when (ltb (requests / 2) ranges || ltb (naks / 3) (naks_for ranges most)) (20 ∷ [])

-- for ranges that are missing, with so many numbers lent for requests and for NAKs
unfoldable pub plan_with : ℕ → ℕ → ℕ → List (ℕ × ℕ) → ℕ → ℕ → Answer Plan
plan_with most start end ranges requests naks = first_of (none_fits most (length ranges) ∷ no_room most (length ranges) requests naks ∷ []) (plan_of most start end ranges)

-- those that the check has too, and then 24; 20; else the plan
unfoldable pub planning : PduHeader → ℕ → List ℕ → ℕ → ℕ → ℕ → ℕ → Answer Plan
planning h size received start end requests naks =
    and_then (judging_plan h size received start end requests) (λ most. plan_with most start end (missing_ranges (twos received) start end) requests naks)

-- ---- what is told and stored

-- how many requests and NAKs there are
abbrev pub counted : Answer Plan → Answer Planned
counted o = and_then o (λ p. accepted (record { requests = length p.requests; naks = length p.naks }))

-- the lent numbers at exit: the plan's in front, the rest as it was; a refusal changes none
abbrev pub requests_after : Answer Plan → List ℕ → List ℕ
requests_after o s = leaves o (λ p. pair_numbers p.requests) s

abbrev pub naks_after : Answer Plan → List ℕ → List ℕ
naks_after o s = leaves o (λ p. nak_numbers p.naks) s
