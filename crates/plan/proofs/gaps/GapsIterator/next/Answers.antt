-- `plan::gaps::Gaps::next` meets its contract. The first gap, or that there is none.
use Rattle.std.proofs.Common.{length, ap, sym, ◌∙◌, arith}
use Rattle.plan.proofs.GapLaws.{gap_found, gap_covered, gap_last, gap_over}
use Rattle.plan.proofs.gaps.GapsIterator.next.Goals as goal

pub loop-start-preserved : goal.loop-start-preserved
loop-start-preserved c =
    sym (gap_covered _ _ _ _ _ c.in-Some.ensures.cases.0 _ _ c.min-to.ensures c.max-self.ensures c.if-from-to.false) ∙ c.loop-start.invariant

pub returns-then-from-to-clause-steps : goal.returns-then-from-to-clause-steps
returns-then-from-to-clause-steps c =
    sym c.loop-start.invariant ∙ gap_found _ _ _ _ _ c.in-Some.ensures.cases.0 _ _ c.min-to.ensures c.max-self.ensures c.if-from-to.true

pub returns-then-from-to-clause-goes : goal.returns-then-from-to-clause-goes
returns-then-from-to-clause-goes c =
    record {
      on = λ _. (tt, tt, omega (arith, ap length (returns-then-from-to-clause-steps c)));
      keeps = tt;
      rests = λ _. tt;
    }

pub returns-then-from-self-clause-steps : goal.returns-then-from-self-clause-steps
returns-then-from-self-clause-steps c = sym c.loop-start.invariant ∙ gap_last _ _ _ c.in_default.ensures.cases c.if-from-self.true

pub returns-then-from-self-clause-goes : goal.returns-then-from-self-clause-goes
returns-then-from-self-clause-goes c =
    record {
      on = λ _. (tt, tt, omega (arith, ap length (returns-then-from-self-clause-steps c)));
      keeps = tt;
      rests = λ _. tt;
    }

pub returns-clause-steps : goal.returns-clause-steps
returns-clause-steps c =
    let l = c.loop-start.self in (
      sym c.loop-start.invariant ∙ gap_over _ _ _ c.in_default.ensures.cases c.if-from-self.false,
      gap_over _ l.stop l.stop c.in_default.ensures.cases (omega arith),
    )
