-- The statements of specs/Theorems, proved: an accepted plan passed every clause, and the planner's passes them all.
-- Assumes nothing.
use Prim.Native.Nat.{ℕ, zero, suc, ◌*◌, ◌%◌, ◌^◌, ◌≤◌, ◌<◌}
use mathlib.Core.Path.{◌≡◌, refl, sym, ap, ◌∙◌}
use mathlib.Core.Bool.{Bool, true, false, ◌&&◌, not, and-false}
use mathlib.Core.List.{List, [], ◌∷◌}
use native.Mathlib.Omega.{arith}
use lib.Dec.{leb, eqb}
use lib.ListN.{length, take, drop}
use lib.Seq.{take_at}
use borrow.Author.Tests.{ne_eqb, leb-true, eqb-true}
use Rattle.fields.specs.Answer.{accepted}
use Rattle.fields.proofs.Judging.{same_accepted, passed, went}
use Rattle.header.specs.declared.PduHeader.{PduHeader}
use Rattle.header.specs.declared.flags.LargeFileFlag.{LargeFileFlag}
use Rattle.header.specs.Size.{size_width}
use Rattle.header.proofs.Comparing.{both_true}
use Rattle.nak.specs.Writing.{scope_fits, writing_nak}
use Rattle.nak.specs.Counting.{most_requests}
use Rattle.nak.proofs.Counting.{most_requests_fit}
use Rattle.nak.proofs.Tests.{scope_fits_lem, scope_passed, scope_below}
use Rattle.ranges.specs.Pairs.{twos, Apart, ApartBehind}
use Rattle.ranges.specs.Merging.{largest}
use Rattle.plan.specs.Missing.{missing, every_byte, missing_ranges}
use Rattle.plan.specs.Plans.{PlannedNak, pair_numbers, nak_numbers, threes, each_fits, all_within, each_within, exactly, join_from, scopes_join, accepts}
use Rattle.plan.specs.Checking.{judging_plan, checking_plan}
use Rattle.plan.specs.Planning.{naks_for, dealt, plan_of, none_fits, no_room, plan_with, planning}
use Rattle.plan.specs.Theorems.{NoNak, AcceptedExact, SameRequests, OnEach, FitWidth, Written, AcceptedWritten, OurPlan, Planner, StoredAccepted}
use Rattle.plan.specs.Gaps.{gaps}
use Rattle.plan.proofs.Apart.{apart_says}
use Rattle.plan.proofs.Arrays.{pairs_back}
use Rattle.plan.proofs.Exact.{gaps_exactly, exact_gaps, gaps_missing}
use Rattle.plan.proofs.Judging.{Good, good, good_again, check_made, judgement}
use Rattle.plan.proofs.Accepting.{Clauses, numbers_clauses, clauses_numbers}
use Rattle.plan.proofs.Planning.{dealt_count, pair_count, nak_count, fits_some, naks_none}
use Rattle.plan.proofs.Storing.{dealt_over}
use Rattle.plan.proofs.Dealing.{Ready, ready_gaps, dealt_fits, dealt_within, dealt_joins}

-- ---- a plan of no NAK

and_one : (c : Bool) → (c && true) ≡ c
and_one true = refl
and_one false = refl

pub no_nak : NoNak
unfolding accepts exactly
no_nak most received start end [] = and_one (every_byte largest (λ b. not (missing received start end b)))
no_nak most received start end (p ∷ ps) = rw (ne_eqb (suc (length ps)) 0 (λ z. absurd (let b : ⊥ = omega arith in b)), and-false)

-- ---- an accepted plan asks for the missing ranges

pub accepted_exact : AcceptedExact
accepted_exact h size received start end requests naks small bounded e =
    let j = judgement h size received start end requests naks true e in
    let k = numbers_clauses j.most received start end requests naks (sym j.is) in
    let a = apart_says (twos received) j.judged.are_apart in
    sym (pairs_back requests j.judged.even_requests)
    ∙ ap pair_numbers (exact_gaps (twos received) start end a small requests bounded k.apart_are k.exact ∙ gaps_missing (twos received) start end a)

pub same_requests : SameRequests
same_requests received start end h h' size size' requests naks requests' naks' small b b' e e' =
    accepted_exact h size received start end requests naks small b e ∙ sym (accepted_exact h' size' received start end requests' naks' small b' e')

-- ---- and each of its NAKs is accepted by the writer

-- each start below its end
abbrev Forward : List (ℕ × ℕ) → Type 0
Forward [] = Unit {0}
Forward (p ∷ ps) = (p.0 < p.1) × Forward ps

behind_forward : (e : ℕ) (ps : List (ℕ × ℕ)) → ApartBehind e ps → Forward ps
behind_forward e [] h = tt
behind_forward e (p ∷ ps) h = (h.1, behind_forward p.1 ps h.2)

apart_forward : (ps : List (ℕ × ℕ)) → Apart ps → Forward ps
apart_forward [] h = tt
apart_forward (p ∷ ps) h = (h.0, behind_forward p.1 ps h.1)

forward_take : (n : ℕ) (ps : List (ℕ × ℕ)) → Forward ps → Forward (take n ps)
forward_take zero ps h = tt
forward_take (suc n) [] h = tt
forward_take (suc n) (p ∷ ps) h = (h.0, forward_take n ps h.1)

forward_drop : (n : ℕ) (ps : List (ℕ × ℕ)) → Forward ps → Forward (drop n ps)
forward_drop zero ps h = h
forward_drop (suc n) [] h = tt
forward_drop (suc n) (p ∷ ps) h = forward_drop n ps h.1

within_fit : (file : LargeFileFlag) (start end : ℕ) (ps : List (ℕ × ℕ)) → end < 256 ^ size_width file → Forward ps → all_within start end ps ≡ true
    → FitWidth file ps
within_fit file start end [] l f e = tt
within_fit file start end (p ∷ ps) l f e =
    let a = both_true (leb start p.0 && leb p.1 end) (all_within start end ps) e in
    let b = both_true (leb start p.0) (leb p.1 end) a.0 in
    let k : p.1 ≤ end = leb-true p.1 end b.1 in
    (omega (arith, f.0), omega arith, within_fit file start end ps l f.1 a.1)

take_count : (n : ℕ) (ps : List (ℕ × ℕ)) → n ≤ length ps → length (take n ps) ≡ n
take_count zero ps l = refl
take_count (suc n) [] l = absurd (let b : ⊥ = omega arith in b)
take_count (suc n) (p ∷ ps) l = ap suc (take_count n ps (omega arith))

-- scopes that join up to an end lie before it
join_below : (at end : ℕ) (ns : List PlannedNak) → join_from at end ns ≡ true → at ≤ end
join_below at end [] j = let e = eqb-true at end j in omega arith
join_below at end (n ∷ ns) j =
    let b = both_true (eqb n.start at && leb n.start n.end) (join_from n.end end ns) j in
    let c = both_true (eqb n.start at) (leb n.start n.end) b.0 in
    let e : n.start ≡ at = eqb-true n.start at c.0 in
    let s : n.start ≤ n.end = leb-true n.start n.end c.1 in
    omega (arith, join_below n.end end ns b.1)

module _ (h : PduHeader) (size most start end : ℕ) (fit : scope_fits h.file start end ≡ true) (m : most_requests h size ≡ accepted most) where
  -- one NAK, whose scope lies before the whole scope's end
  one_written : (n : PlannedNak) (own : List (ℕ × ℕ)) → n.start ≤ end → n.end ≤ end → n.count ≤ most → length own ≡ n.count → Forward own
      → all_within n.start n.end own ≡ true → Written h size n own
  one_written n own a b c d f w =
      let scope = scope_below h.file start end n.start n.end fit a b in
      let numbers : length (pair_numbers own) ≡ 2 * n.count = pair_count own ∙ ap (λ (x : ℕ). 2 * x) d in
      record {
        all_there = numbers;
        fit_width = within_fit h.file n.start n.end own (scope_fits_lem h.file n.start n.end scope).1 f w;
        is_written =
            ap (λ (x : ℕ). writing_nak h.file h n.start n.end x size) numbers
            ∙ (most_requests_fit h n.start n.end size most scope m).fit n.count c;
      }

  written_from : (at : ℕ) (ns : List PlannedNak) (ps : List (ℕ × ℕ)) → each_fits most ns ≡ true → Forward ps → each_within ns ps ≡ true
      → join_from at end ns ≡ true → OnEach (Written h size) ns ps
  written_from at [] ps f v w j = tt
  written_from at (n ∷ ns) ps f v w j =
      let a = both_true (leb n.count most) (each_fits most ns) f in
      let b = both_true (eqb n.start at && leb n.start n.end) (join_from n.end end ns) j in
      let c = both_true (eqb n.start at) (leb n.start n.end) b.0 in
      let d = both_true (leb n.count (length ps) && all_within n.start n.end (take n.count ps)) (each_within ns (drop n.count ps)) w in
      let e = both_true (leb n.count (length ps)) (all_within n.start n.end (take n.count ps)) d.0 in
      let s : n.start ≤ n.end = leb-true n.start n.end c.1 in
      let t : n.end ≤ end = join_below n.end end ns b.1 in (
        one_written n (take n.count ps) (omega arith) t (leb-true n.count most a.0)
            (take_count n.count ps (leb-true n.count (length ps) e.0)) (forward_take n.count ps v) e.1,
        written_from n.end ns (drop n.count ps) a.1 (forward_drop n.count ps v) d.1 b.1,
      )

  written_all : (ns : List PlannedNak) (ps : List (ℕ × ℕ)) → each_fits most ns ≡ true → Forward ps → each_within ns ps ≡ true
      → scopes_join start end ns ≡ true → OnEach (Written h size) ns ps
  written_all [] ps f v w j = tt
  written_all (n ∷ ns) ps f v w j = written_from start (n ∷ ns) ps f v w j

pub accepted_written : AcceptedWritten
accepted_written h size received start end requests naks small e =
    let j = judgement h size received start end requests naks true e in
    let k = numbers_clauses j.most received start end requests naks (sym j.is) in
    let fit = scope_passed h.file start end (omega (arith, j.judged.forwards)) (omega arith) j.judged.scope in
    written_all h size j.most start end fit (sym j.judged.most_is) (threes naks) (twos requests) k.fit
    (apart_forward (twos requests) (apart_says (twos requests) k.apart_are)) k.within k.join

-- ---- our planner

twos_back : (ps : List (ℕ × ℕ)) → twos (pair_numbers ps) ≡ ps
twos_back [] = refl
twos_back (p ∷ ps) = ap (λ (x : List (ℕ × ℕ)). p ∷ x) (twos_back ps)

threes_back : (ns : List PlannedNak) → threes (nak_numbers ns) ≡ ns
threes_back [] = refl
threes_back (n ∷ ns) = ap (λ (x : List PlannedNak). n ∷ x) (threes_back ns)

module _ (h : PduHeader) (size : ℕ) (received : List ℕ) (start end requests most : ℕ) (g : Good h size received start end requests most) where
  abbrev missed : List (ℕ × ℕ)
  missed = missing_ranges (twos received) start end

  module _ (some : 0 < length missed → 0 < most) where
    abbrev naks_of : List PlannedNak
    naks_of = dealt (naks_for (length missed) most) most (length missed) start end missed

    are_gaps : missed ≡ gaps start end (twos received)
    are_gaps = sym (gaps_missing (twos received) start end (apart_says (twos received) g.are_apart))

    ready : Ready (naks_for (length missed) most) most (length missed) start end missed
    ready = ready_gaps most start end (twos received) missed (apart_says (twos received) g.are_apart) g.forwards are_gaps some

    plan_clauses : Clauses most (twos received) start end (record { requests = missed; naks = naks_of })
    plan_clauses =
        let x = gaps_exactly (twos received) start end (apart_says (twos received) g.are_apart) missed are_gaps in
        record {
          fit = dealt_fits (naks_for (length missed) most) most (length missed) start end missed ready;
          apart_are = x.0;
          within = dealt_within (naks_for (length missed) most) most (length missed) start end missed ready;
          exact = x.1;
          join = dealt_joins (naks_for (length missed) most) most (length missed) start end missed ready;
        }

    plan_accepted : checking_plan h size received start end (pair_numbers missed) (nak_numbers naks_of) ≡ accepted true
    plan_accepted =
        let even : length (pair_numbers missed) % 2 ≡ 0 = (let c = pair_count missed in omega arith) in
        let whole : length (nak_numbers naks_of) % 3 ≡ 0 = (let c = nak_count naks_of in omega arith) in
        let k : Clauses most (twos received) start end (record { requests = twos (pair_numbers missed); naks = threes (nak_numbers naks_of) }) = rw
        (twos_back missed, threes_back naks_of) plan_clauses in
        sym
        (check_made h size received start end (pair_numbers missed) (nak_numbers naks_of) most true
        (good_again h size received start end requests most g (length (pair_numbers missed)) even)
        (sym (clauses_numbers most received start end (pair_numbers missed) (nak_numbers naks_of) whole k)))

    our_plan : OurPlan h size received start end (plan_of most start end missed)
    unfolding plan_of
    our_plan =
        record {
          is_accepted = plan_accepted;
          one_each = refl;
          rounded_up =
              λ m e. dealt_count (naks_for (length missed) most) most (length missed) start end missed
              ∙ ap (λ (x : ℕ). naks_for (length missed) x) (same_accepted most m (g.most_is ∙ e));
          with_none = λ e. dealt_over (naks_for (length missed) most) most (length missed) start end missed (sym (naks_none (length missed) most (ap length e)));
          all_written =
              λ small. rw (threes_back naks_of, twos_back missed) at
              (accepted_written h size received start end (pair_numbers missed) (nak_numbers naks_of) small plan_accepted);
        }

pub planner : Planner
unfolding planning plan_with
planner h size received start end requests naks p e =
    let rs = missing_ranges (twos received) start end in
    let w = went (judging_plan h size received start end requests) (λ most. plan_with most start end rs requests naks) p (sym e) in
    let q = passed (none_fits w.mid (length rs) ∷ no_room w.mid (length rs) requests naks ∷ []) p (plan_of w.mid start end rs) w.second in
    rw q.1
    (our_plan h size received start end requests w.mid (good h size received start end requests w.mid w.first)
    (fits_some w.mid (length rs) q.0.0))

pub stored_accepted : StoredAccepted
stored_accepted h size received start end s t p e =
    let r = take_at (pair_numbers p.requests) (drop (length (pair_numbers p.requests)) s) (2 * length p.requests) (pair_count p.requests) in
    let n = take_at (nak_numbers p.naks) (drop (length (nak_numbers p.naks)) t) (3 * length p.naks) (nak_count p.naks) in
    rw (r, n) (planner h size received start end (length s) (length t) p e).is_accepted
