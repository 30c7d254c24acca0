-- Plans, and which of them are accepted (document 02, C-09), clause by clause; and how a plan stands in lent numbers.
use Rattle.std.specs.Prelude.{ℕ, ◌%◌, Bool, true, ◌&&◌, List, [], ◌∷◌, leb, eqb, length, take, drop}
use Rattle.ranges.specs.Pairs.{asks, twos}
use Rattle.ranges.specs.Merging.{largest}
use Rattle.plan.specs.Missing.{missing, apart, every_byte, same}

-- a NAK of a plan: where its scope starts and ends, and how many of the requests are its own
pub record PlannedNak : Type 0 where
  pub start : ℕ
  pub end : ℕ
  pub count : ℕ

-- a plan: the requests of all its NAKs, in their order, and the NAKs
pub record Plan : Type 0 where
  pub requests : List (ℕ × ℕ)
  pub naks : List PlannedNak

-- ---- which are accepted, in the document's order

-- 'each NAK fits the packet size': it has at most as many requests as C-08 answers
abbrev pub each_fits : ℕ → List PlannedNak → Bool
each_fits most [] = true
each_fits most (n ∷ ns) = leb n.count most && each_fits most ns

-- each of these requests lies in the scope from start to end
abbrev pub all_within : ℕ → ℕ → List (ℕ × ℕ) → Bool
all_within start end [] = true
all_within start end (p ∷ ps) = leb start p.0 && leb p.1 end && all_within start end ps

-- 'each lies in its NAK's scope': the requests are dealt out in their order, and none is left over or lacking
abbrev pub each_within : List PlannedNak → List (ℕ × ℕ) → Bool
each_within [] ps = eqb (length ps) 0
each_within (n ∷ ns) ps = leb n.count (length ps) && all_within n.start n.end (take n.count ps) && each_within ns (drop n.count ps)

-- 'they ask for exactly the missing bytes': each byte is asked for if it is missing, and only then. Bytes below 2^64 - 1 are all: no pair of 64-bit numbers asks for another, and none is missing
unfoldable pub exactly : List (ℕ × ℕ) → ℕ → ℕ → List (ℕ × ℕ) → Bool
exactly received start end requests = every_byte largest (λ b. same (asks requests b) (missing received start end b))

-- 'the NAKs' scopes, none backwards, join up from' at 'to' end
abbrev pub join_from : ℕ → ℕ → List PlannedNak → Bool
join_from at end [] = eqb at end
join_from at end (n ∷ ns) = eqb n.start at && leb n.start n.end && join_from n.end end ns

-- 'from the whole scope's start to its end'; where there is no NAK there is no scope to join
abbrev pub scopes_join : ℕ → ℕ → List PlannedNak → Bool
scopes_join start end [] = true
scopes_join start end (n ∷ ns) = join_from start end (n ∷ ns)

-- 'a plan is accepted exactly when each NAK fits the packet size, requests rise and stay apart through the set, each lies in its NAK's scope, they ask for exactly the missing bytes, and the NAKs' scopes .. join up'
unfoldable pub accepts : ℕ → List (ℕ × ℕ) → ℕ → ℕ → Plan → Bool
accepts most received start end p =
    each_fits most p.naks
    && apart p.requests
    && each_within p.naks p.requests
    && exactly received start end p.requests
    && scopes_join start end p.naks

-- ---- in numbers

-- requests, start and end by turns
abbrev pub pair_numbers : List (ℕ × ℕ) → List ℕ
pair_numbers [] = []
pair_numbers (p ∷ ps) = p.0 ∷ p.1 ∷ pair_numbers ps

-- NAKs by threes: scope start, scope end, how many of the requests are its own
abbrev pub nak_numbers : List PlannedNak → List ℕ
nak_numbers [] = []
nak_numbers (n ∷ ns) = n.start ∷ n.end ∷ n.count ∷ nak_numbers ns

-- and back: the NAKs of numbers, three by three
abbrev pub threes : List ℕ → List PlannedNak
threes [] = []
threes (x ∷ []) = []
threes (x ∷ y ∷ []) = []
threes (x ∷ y ∷ z ∷ ns) = record { start = x; end = y; count = z } ∷ threes ns

-- the numbers are whole threes, and the plan that stands in both is accepted
unfoldable pub accepts_numbers : ℕ → List ℕ → ℕ → ℕ → List ℕ → List ℕ → Bool
accepts_numbers most received start end requests naks =
    eqb (length naks % 3) 0 && accepts most (twos received) start end (record { requests = twos requests; naks = threes naks })
