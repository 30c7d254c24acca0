-- What is proved of check and planner together, and of their answers.
use Rattle.std.specs.Prelude.{ℕ, ◌*◌, ◌^◌, ◌≤◌, ◌<◌, ◌≡◌, true, ◌&&◌, not, List, [], ◌∷◌, eqb, length, get_or, take, drop}
use Rattle.fields.specs.Answer.{accepted}
use Rattle.header.specs.declared.PduHeader.{PduHeader}
use Rattle.header.specs.declared.flags.LargeFileFlag.{LargeFileFlag}
use Rattle.header.specs.Size.{size_width}
use Rattle.nak.specs.Writing.{writing_nak}
use Rattle.nak.specs.Counting.{most_requests, of_pairs}
use Rattle.ranges.specs.Pairs.{twos}
use Rattle.ranges.specs.Merging.{largest}
use Rattle.plan.specs.Missing.{missing, every_byte, missing_ranges}
use Rattle.plan.specs.Plans.{PlannedNak, Plan, pair_numbers, nak_numbers, threes, accepts}
use Rattle.plan.specs.Checking.{checking_plan}
use Rattle.plan.specs.Planning.{naks_for, planning, requests_after, naks_after}

-- ---- of any plan

-- 'A plan of no NAK is accepted exactly when nothing is missing', and no request is lent
abbrev pub NoNak : Type 0
NoNak =
    (most : ℕ) (received : List (ℕ × ℕ)) (start end : ℕ) (requests : List (ℕ × ℕ))
    → accepts most received start end (record { requests = requests; naks = [] }) ≡ (eqb (length requests) 0 && every_byte largest (λ b. not (missing received start end b)))

-- numbers of 64 bits
abbrev pub Numbers64 : List ℕ → Type 0
Numbers64 ns = (i : ℕ) → get_or ns i 0 ≤ largest

-- the requests of an accepted plan are the missing ranges
abbrev pub AcceptedExact : Type 0
AcceptedExact =
    (h : PduHeader) (size : ℕ) (received : List ℕ) (start end : ℕ) (requests naks : List ℕ) → end ≤ largest → Numbers64 requests
    → checking_plan h size received start end requests naks ≡ accepted true
    → requests ≡ pair_numbers (missing_ranges (twos received) start end)

-- so two accepted plans ask for the same requests, whatever the packet sizes and headers that they are for
abbrev pub SameRequests : Type 0
SameRequests =
    (received : List ℕ) (start end : ℕ) (h h' : PduHeader) (size size' : ℕ) (requests naks requests' naks' : List ℕ) → end ≤ largest → Numbers64 requests → Numbers64 requests'
    → checking_plan h size received start end requests naks ≡ accepted true
    → checking_plan h' size' received start end requests' naks' ≡ accepted true
    → requests ≡ requests'

-- of each NAK and the requests that are its own
abbrev pub OnEach : (PlannedNak → List (ℕ × ℕ) → Type 0) → List PlannedNak → List (ℕ × ℕ) → Type 0
OnEach P [] ps = Unit {0}
OnEach P (n ∷ ns) ps = P n (take n.count ps) × OnEach P ns (drop n.count ps)

-- offsets that the flag's width holds
abbrev pub FitWidth : LargeFileFlag → List (ℕ × ℕ) → Type 0
FitWidth file [] = Unit {0}
FitWidth file (p ∷ ps) = (p.0 < 256 ^ size_width file) × (p.1 < 256 ^ size_width file) × FitWidth file ps

-- a NAK of a plan with its own requests: they fit the width, and the writer accepts it in a buffer of the packet size
pub record Written (h : PduHeader) (size : ℕ) (n : PlannedNak) (own : List (ℕ × ℕ)) : Type 0 where
  pub all_there : length (pair_numbers own) ≡ 2 * n.count
  pub fit_width : FitWidth h.file own
  pub is_written : writing_nak h.file h n.start n.end (length (pair_numbers own)) size ≡ accepted (of_pairs h n.count)

-- so it is with each NAK of an accepted plan
abbrev pub AcceptedWritten : Type 0
AcceptedWritten =
    (h : PduHeader) (size : ℕ) (received : List ℕ) (start end : ℕ) (requests naks : List ℕ) → end ≤ largest
    → checking_plan h size received start end requests naks ≡ accepted true
    → OnEach (Written h size) (threes naks) (twos requests)

-- ---- of our own planner

-- 'its plan is always accepted, uses one request for each missing range, and has the number of ranges divided by C-08's answer, rounded up; with nothing missing there is no NAK'; and each NAK is accepted by the writer
pub record OurPlan (h : PduHeader) (size : ℕ) (received : List ℕ) (start end : ℕ) (p : Plan) : Type 0 where
  pub is_accepted : checking_plan h size received start end (pair_numbers p.requests) (nak_numbers p.naks) ≡ accepted true
  pub one_each : p.requests ≡ missing_ranges (twos received) start end
  pub rounded_up : (most : ℕ) → most_requests h size ≡ accepted most → length p.naks ≡ naks_for (length p.requests) most
  pub with_none : p.requests ≡ [] → p.naks ≡ []
  pub all_written : end ≤ largest → OnEach (Written h size) p.naks p.requests

abbrev pub Planner : Type 0
Planner = (h : PduHeader) (size : ℕ) (received : List ℕ) (start end requests naks : ℕ) (p : Plan) → planning h size received start end requests naks ≡ accepted p → OurPlan h size received start end p

-- and so of the numbers that it leaves in front of those lent: the check accepts them
abbrev pub StoredAccepted : Type 0
StoredAccepted =
    (h : PduHeader) (size : ℕ) (received : List ℕ) (start end : ℕ) (s t : List ℕ) (p : Plan)
    → planning h size received start end (length s) (length t) ≡ accepted p
    → checking_plan h size received start end (take (2 * length p.requests) (requests_after (accepted p) s)) (take (3 * length p.naks) (naks_after (accepted p) t)) ≡ accepted true
