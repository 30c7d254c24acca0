-- `plan::naks::each_within` meets its contract. The loop's invariant: the NAKs that are left decide, with the requests that are left.
use mathlib.Core.Path.{sym, ◌∙◌}
use Rattle.plan.proofs.Walks.{each_lack, each_out, each_on, each_end}
use Rattle.plan.proofs.naks.each_within.Goals as goal

pub returns-in_default : goal.returns-in_default
returns-in_default c = let l = c.loop-start in sym (each_lack _ _ _ c.loop-start-test.true c.in_default.ensures.cases) ∙ l.invariant

pub returns-then-not-all_within : goal.returns-then-not-all_within
returns-then-not-all_within c =
    let l = c.loop-start in
    let s = c.in-Some.ensures.cases in
    sym (each_out _ _ _ c.loop-start-test.true s.0 _ _ s.1 s.2 (sym c.all_within.ensures ∙ c.if-not-all_within.true)) ∙ l.invariant

pub loop-start-preserved : goal.loop-start-preserved
loop-start-preserved c =
    let l = c.loop-start in
    let s = c.in-Some.ensures.cases in
    sym (each_on _ _ _ c.loop-start-test.true s.0 _ _ s.1 s.2 (sym c.all_within.ensures ∙ c.if-not-all_within.false)) ∙ l.invariant

pub returns : goal.returns
returns c = c.is_empty.ensures ∙ sym (each_end _ _ _ c.loop-start-test.false) ∙ c.loop-start.invariant
