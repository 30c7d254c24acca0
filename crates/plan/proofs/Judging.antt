-- What check and planner refuse alike: each exit is the first test that holds, and what is not refused passed them all.
-- Assumes nothing.
use Prim.Native.Nat.{ℕ, ◌%◌, ◌≤◌, ◌<◌}
use mathlib.Core.Path.{◌≡◌, refl, sym, ap, ◌∙◌}
use mathlib.Core.Bool.{Bool, true, false}
use mathlib.Core.List.{List, [], ◌∷◌}
use lib.Dec.{leb}
use lib.ListN.{length}
use borrow.Author.Tests.{le-leb, lt-leb, eq-eqb, ne_eqb, leb-true, eqb-true, not-false}
use Rattle.fields.specs.Answer.{Answer, accepted, told, Test, first_of, all_of}
use Rattle.fields.proofs.Judging.{Passed, passed, all_passed, judged_passed, told_is_refused, refused_same, refused_then, accepted_then, went}
use Rattle.header.specs.declared.PduHeader.{PduHeader}
use Rattle.header.specs.declared.flags.LargeFileFlag.{LargeFileFlag}
use Rattle.header.proofs.Comparing.{both_true}
use Rattle.nak.specs.Writing.{scope_too_large}
use Rattle.nak.specs.Counting.{most_requests}
use Rattle.ranges.specs.Pairs.{twos}
use Rattle.plan.specs.Missing.{apart}
use Rattle.plan.specs.Plans.{accepts_numbers}
use Rattle.plan.specs.Checking.{plan_tests, judging_plan, checking_plan}

-- ---- the ranges

module _ (file : LargeFileFlag) (received : List ℕ) (start end requests : ℕ) where
  pub odd_received : (length received % 2 ≡ 0 → ⊥) → told (12 ∷ length received ∷ []) ≡ all_of (plan_tests file received start end requests)
  unfolding plan_tests
  odd_received n = rw (told_is_refused 12 _ refl, ne_eqb _ _ n)

  module _ (p : length received % 2 ≡ 0) where
    pub odd_requests : (requests % 2 ≡ 0 → ⊥) → told (12 ∷ requests ∷ []) ≡ all_of (plan_tests file received start end requests)
    unfolding plan_tests
    odd_requests n = rw (told_is_refused 12 _ refl, eq-eqb _ _ p, ne_eqb _ _ n)

    module _ (q : requests % 2 ≡ 0) where
      pub not_apart : apart (twos received) ≡ false → told (23 ∷ []) ≡ all_of (plan_tests file received start end requests)
      unfolding plan_tests
      not_apart n = rw (told_is_refused 23 _ refl, eq-eqb _ _ p, eq-eqb _ _ q, n)

      module _ (r : apart (twos received) ≡ true) where
        pub backwards : end < start → told (23 ∷ []) ≡ all_of (plan_tests file received start end requests)
        unfolding plan_tests
        backwards n = rw (told_is_refused 23 _ refl, eq-eqb _ _ p, eq-eqb _ _ q, r, lt-leb _ _ n)

        pub as_scope : (o : Answer (Unit {0})) → start ≤ end → o ≡ all_of (scope_too_large file start end ∷ [])
            → o ≡ all_of (plan_tests file received start end requests)
        unfolding plan_tests
        as_scope o l e = e ∙ rw (eq-eqb _ _ p, eq-eqb _ _ q, r, le-leb _ _ l)

-- ---- behind C-08's answer

-- what is not refused
pub record Good (h : PduHeader) (size : ℕ) (received : List ℕ) (start end requests most : ℕ) : Type 0 where
  pub most_is : accepted most ≡ most_requests h size
  pub even_received : length received % 2 ≡ 0
  pub even_requests : requests % 2 ≡ 0
  pub are_apart : apart (twos received) ≡ true
  pub forwards : start ≤ end
  pub scope : Passed (scope_too_large h.file start end ∷ [])

module _ (h : PduHeader) (size : ℕ) (received : List ℕ) (start end requests : ℕ) where
  abbrev tests : List Test
  tests = plan_tests h.file received start end requests

  pub refused_first : (ns : List ℕ) → told ns ≡ most_requests h size → told ns ≡ judging_plan h size received start end requests
  unfolding judging_plan
  refused_first ns e = refused_then (most_requests h size) (λ most. first_of tests most) ns e

  module _ (most : ℕ) (e : accepted most ≡ most_requests h size) where
    behind : first_of tests most ≡ judging_plan h size received start end requests
    unfolding judging_plan
    behind = accepted_then (most_requests h size) (λ most. first_of tests most) most e

    pub refused_behind : (ns : List ℕ) → told ns ≡ all_of tests → told ns ≡ judging_plan h size received start end requests
    refused_behind ns k = refused_same ns tests tt most k ∙ behind

    pub none_refused : accepted tt ≡ all_of tests → accepted most ≡ judging_plan h size received start end requests
    none_refused k = sym (all_passed tests most (judged_passed tests k)) ∙ behind

  pub good : (most : ℕ) → accepted most ≡ judging_plan h size received start end requests → Good h size received start end requests most
  unfolding judging_plan plan_tests
  good most e =
      let w = went (most_requests h size) (λ most. first_of tests most) most e in
      let p = passed tests most w.mid w.second in
      let a = both_true (apart (twos received)) (leb start end) (not-false _ p.0.1.1.0) in
      record {
        most_is = ap accepted p.1 ∙ w.first;
        even_received = eqb-true _ _ (not-false _ p.0.0);
        even_requests = eqb-true _ _ (not-false _ p.0.1.0);
        are_apart = a.0;
        forwards = leb-true _ _ a.1;
        scope = p.0.1.1.1;
      }

  -- and so it is where only the count of the requests is another, and even
  pub good_again : (most : ℕ) → Good h size received start end requests most → (count : ℕ) → count % 2 ≡ 0
      → accepted most ≡ judging_plan h size received start end count
  unfolding judging_plan plan_tests
  good_again most g count even =
      sym
      (all_passed (plan_tests h.file received start end count) most
      (rw (eq-eqb _ _ g.even_received), (rw (eq-eqb _ _ even), (rw (g.are_apart, le-leb _ _ g.forwards), g.scope))))
      ∙ accepted_then (most_requests h size) (λ most. first_of (plan_tests h.file received start end count) most) most g.most_is

-- ---- the check's own answer

module _ (h : PduHeader) (size : ℕ) (received : List ℕ) (start end : ℕ) (requests naks : List ℕ) where
  abbrev verdict : ℕ → Answer Bool
  verdict most = accepted (accepts_numbers most received start end requests naks)

  pub check_refused : (ns : List ℕ) → told ns ≡ judging_plan h size received start end (length requests)
      → told ns ≡ checking_plan h size received start end requests naks
  unfolding checking_plan
  check_refused ns e = refused_then (judging_plan h size received start end (length requests)) verdict ns e

  pub check_made : (most : ℕ) (b : Bool) → accepted most ≡ judging_plan h size received start end (length requests)
      → b ≡ accepts_numbers most received start end requests naks → accepted b ≡ checking_plan h size received start end requests naks
  unfolding checking_plan
  check_made most b e k = ap accepted k ∙ accepted_then (judging_plan h size received start end (length requests)) verdict most e

  -- what the check answered was judged, and is what the clauses say
  pub record Judgement (b : Bool) : Type 0 where
    pub most : ℕ
    pub judged : Good h size received start end (length requests) most
    pub is : b ≡ accepts_numbers most received start end requests naks

  pub judgement : (b : Bool) → checking_plan h size received start end requests naks ≡ accepted b → Judgement b
  unfolding checking_plan
  judgement b e =
      let w = went (judging_plan h size received start end (length requests)) verdict b (sym e) in
      let p = passed [] b (accepts_numbers w.mid received start end requests naks) w.second in
      record { most = w.mid; judged = good h size received start end (length requests) w.mid w.first; is = p.1 }
