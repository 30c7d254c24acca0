-- `plan::planner::plan_with` meets its contract. Counted first; each exit has its law.
use mathlib.Core.Path.{◌≡◌, refl, sym, ap, ◌∙◌}
use mathlib.Core.List.{List}
use Prim.Native.Nat.{ℕ}
use lib.ListN.{length, take, get_or}
use lib.Seq.{sets}
use native.Mathlib.Omega.{arith}
use Rattle.std.proofs.Common.{inl}
use Rattle.std.proofs.lemmas.Iterator.Consumers.{YieldsList-from_first, count_from_yields_List}
use Rattle.std.proofs.lemmas.List.{length-map, take-map}
use Rattle.ranges.specs.Pairs.{twos}
use Rattle.plan.specs.declared.gaps.Gaps.{Gaps}
use Rattle.plan.specs.Missing.{missing_ranges}
use Rattle.plan.specs.Gaps.{pairs, gaps}
use Rattle.plan.specs.Plans.{pair_numbers, nak_numbers}
use Rattle.plan.specs.Planning.{dealt}
use Rattle.plan.proofs.Apart.{apart_says}
use Rattle.plan.proofs.Arrays.{pairs_are}
use Rattle.plan.proofs.Exact.{gaps_missing}
use Rattle.plan.proofs.GapLaws.{few_gaps}
use Rattle.plan.proofs.Planning.{fits_some, naks_enough, naks_positive, none_fit, few_requests, few_naks, all_stored}
use Rattle.plan.proofs.planner.plan_with.Goals as goal
use Rattle.plan.proofs.planner.plan_with.Goals.{After-count-count}

pub count-count-requires-clause-fits : goal.count-count-requires-clause-fits
count-count-requires-clause-fits c = let m = c.gaps-missing.result in inl (omega (arith, few_gaps m.at m.stop m.received.now, m.few))

-- as many as the missing ranges, which the gaps are
are_missing : (c : After-count-count)
    → gaps c.gaps-missing.result.at c.gaps-missing.result.stop (pairs c.gaps-missing.result.received.now) ≡ missing_ranges (twos c.args.scope.received.now) c.args.scope.start c.args.scope.«end»
are_missing c =
    let s = c.args.scope in
    c.gaps-missing.ensures ∙ gaps_missing (twos s.received.now) s.start s.«end» (apart_says (twos s.received.now) c.requires)

all_counted : (c : After-count-count)
    → c.count-count.result ≡ length (gaps c.gaps-missing.result.at c.gaps-missing.result.stop (pairs c.gaps-missing.result.received.now))
all_counted c =
    count_from_yields_List c.gaps-missing.result c.count-count.result c.count-count.ensures.ran
    (YieldsList-from_first (λ x. x) (λ (s : Gaps). gaps s.at s.stop (pairs s.received.now)) _ refl)

counted : (c : After-count-count) → c.count-count.result ≡ length (missing_ranges (twos c.args.scope.received.now) c.args.scope.start c.args.scope.«end»)
counted c = all_counted c ∙ ap length (are_missing c)

pub returns-then-none_fits : goal.returns-then-none_fits
returns-then-none_fits c =
    none_fit _ _ _ _ _ _ _ (counted ((goal.at.returns-then-none_fits c).After-count-count)) (sym c.none_fits.ensures ∙ c.if-none_fits.true)

pub naks_for-parts-requires : goal.naks_for-parts-requires
naks_for-parts-requires c = fits_some _ _ (sym c.none_fits.ensures ∙ c.if-none_fits.false)

pub returns-then-requests-count : goal.returns-then-requests-count
returns-then-requests-count c =
    few_requests _ _ _ _ _ _ _ (counted ((goal.at.returns-then-requests-count c).After-count-count))
    (sym c.none_fits.ensures ∙ c.if-none_fits.false) c.if-requests-count.true

pub returns-then-naks-parts : goal.returns-then-naks-parts
returns-then-naks-parts c =
    few_naks _ _ _ _ _ _ _ (counted ((goal.at.returns-then-naks-parts c).After-count-count))
    (sym c.none_fits.ensures ∙ c.if-none_fits.false) c.if-requests-count.false _ c.naks_for-parts.ensures c.if-naks-parts.true

pub store_gaps-requires : goal.store_gaps-requires
store_gaps-requires c = omega (arith, all_counted ((goal.at.store_gaps-requires c).After-count-count), c.if-requests-count.false)

pub store_naks-requires : goal.store_naks-requires
store_naks-requires c =
    let n = c.count-count.result in
    let most = c.args.most in
    let h = fits_some most n (sym c.none_fits.ensures ∙ c.if-none_fits.false) in
    let k = c.naks_for-parts.ensures in
    let e = c.split_at.ensures.front_len in
    (omega (arith, c.if-naks-parts.false), rw (k, e) (naks_enough n most h), λ l. naks_positive n most h (rw k at l))

pub returns : goal.returns
returns c =
    let g = (goal.at.returns c).After-count-count in
    let a = c.args in
    let n = c.count-count.result in
    let asked = c.split_at.result.0.now in
    let requested = c.store_gaps.ensures ∙ ap (λ (x : List (ℕ × ℕ)). sets a.requests.now 0 (pair_numbers x)) (are_missing g) in
    let are_asked = ap pairs c.split_at.ensures.front ∙ sym (take-map _ n c.as_chunks.result.0.now) ∙ ap (take n) (pairs_are _ _ c.as_chunks.ensures.front) in
    let many : length asked ≡ length (pairs asked) = sym (length-map asked (λ x. (get_or x 0 0, get_or x 1 0))) in
    all_stored _ _ _ _ _ _ _ (counted g) (sym c.none_fits.ensures ∙ c.if-none_fits.false) c.if-requests-count.false _ c.naks_for-parts.ensures
    c.if-naks-parts.false _ _ (pairs asked) requested are_asked
    (c.store_naks.ensures ∙ ap (λ (x : ℕ). sets a.naks.now 0 (nak_numbers (dealt c.naks_for-parts.result a.most x a.scope.start a.scope.«end» (pairs asked)))) many)
