-- `plan::judge::judge_ranges` meets its contract. Each exit's answer is the first test that holds.
use mathlib.Core.Path.{◌≡◌, sym, ap, ◌∙◌}
use Rattle.ranges.specs.Pairs.{twos}
use Rattle.plan.specs.Missing.{apart}
use Rattle.plan.proofs.Arrays.{pairs_are}
use Rattle.plan.proofs.Judging.{odd_received, odd_requests, not_apart, backwards, as_scope}
use Rattle.plan.proofs.judge.judge_ranges.Goals as goal
use Rattle.plan.proofs.judge.judge_ranges.Goals.{After-are_apart}

apart_is : (c : After-are_apart) → apart (twos c.args.scope.received.now) ≡ c.are_apart.result
apart_is c = sym (ap apart (pairs_are _ _ c.as_chunks.ensures.front)) ∙ sym c.are_apart.ensures

pub returns-then-count-ne0 : goal.returns-then-count-ne0
returns-then-count-ne0 c = odd_received _ _ _ _ _ c.if-count-ne0.true

pub returns-then-requests-ne0 : goal.returns-then-requests-ne0
returns-then-requests-ne0 c = odd_requests _ _ _ _ _ c.if-count-ne0.false c.if-requests-ne0.true

pub returns-then-not-are_apart : goal.returns-then-not-are_apart
returns-then-not-are_apart c =
    not_apart _ _ _ _ _ c.if-count-ne0.false c.if-requests-ne0.false
    (apart_is ((goal.at.returns-then-not-are_apart c).After-are_apart) ∙ c.if-not-are_apart.true)

pub returns-then-scope : goal.returns-then-scope
returns-then-scope c =
    backwards _ _ _ _ _ c.if-count-ne0.false c.if-requests-ne0.false
    (apart_is ((goal.at.returns-then-scope c).After-are_apart) ∙ c.if-not-are_apart.false) c.if-scope.true

pub returns : goal.returns
returns c =
    as_scope _ _ _ _ _ c.if-count-ne0.false c.if-requests-ne0.false
    (apart_is ((goal.at.returns c).After-are_apart) ∙ c.if-not-are_apart.false) _ c.if-scope.false c.judge_scope.ensures
