-- `ranges::owed::run` meets its contract. The loop's invariant: running the rest from here gives the answer.
use mathlib.Core.Path.{◌≡◌, refl, ap, ◌∙◌}
use Rattle.std.proofs.Common.{rules}
use Prim.Native.Nat.{◌-◌}
use native.Mathlib.Omega.{arith}
use lib.ListN.{length, drop, length-drop}
use lib.Seq.{take_all}
use Rattle.std.proofs.lemmas.Result.{err_from_is_err_and}
use Rattle.fields.specs.Answer.{answer_of}
use Rattle.ranges.proofs.Running.{mapped_ok, mapped_err, run_end, run_refused, run_turn}
use Rattle.ranges.proofs.owed.run.Goals as goal

pub loop-at-init : goal.loop-at-init
loop-at-init c = refl

pub returns-in_err-at : goal.returns-in_err-at
returns-in_err-at c =
    let l = c.loop-at in
    let loop-test = c.loop-at-test in
    let a = c.args in
    let entry = c.entry in
    let k = mapped_err _ entry.result _ _ c.in_err-at.ensures.cases in
    let q : c.in_err-at.field-0.0 ≡ record { refusal = k.0; at = l.at } = search rules in
    let p = err_from_is_err_and c.from_residual.result c.from_residual.ensures.1 in
    let both = run_refused _ _ _ _ _ l.invariant loop-test.true _
    (take_all (length a.log.now - l.at) (drop l.at a.log.now) (omega (arith, length-drop l.at a.log.now))) _
    entry.ensures.stored _ (ap answer_of k.1 ∙ entry.ensures.answered) in
    rw (p.1, p.2, q) record { answered = both.0; stored = both.1 }

pub overflow_add-at : goal.overflow_add-at
overflow_add-at c =
    let l = c.loop-at in
    let loop-test = c.loop-at-test in
    let a = c.args in
    let entry = c.entry in
    let good = c.well_formed in
    record { fits = omega (arith, (run_turn _ _ _ _ _ l.invariant loop-test.true _ (take_all (length a.log.now - l.at) (drop l.at a.log.now) (omega (arith, length-drop l.at a.log.now))) _ entry.ensures.stored _ (ap answer_of (mapped_ok _ c.entry.result _ _ c.in_ok-at.ensures.cases (λ e p. p)) ∙ entry.ensures.answered)).1, good) }

pub loop-at-smaller : goal.loop-at-smaller
loop-at-smaller c =
    let l = c.loop-at in
    let loop-test = c.loop-at-test in
    let a = c.args in
    let entry = c.entry in
    omega
    (arith, (run_turn _ _ _ _ _ l.invariant loop-test.true _ (take_all (length a.log.now - l.at) (drop l.at a.log.now) (omega (arith, length-drop l.at a.log.now))) _ entry.ensures.stored _ (ap answer_of (mapped_ok _ c.entry.result _ _ c.in_ok-at.ensures.cases (λ e p. p)) ∙ entry.ensures.answered)).1, (run_turn _ _ _ _ _ l.invariant loop-test.true _ (take_all (length a.log.now - l.at) (drop l.at a.log.now) (omega (arith, length-drop l.at a.log.now))) _ entry.ensures.stored _ (ap answer_of (mapped_ok _ c.entry.result _ _ c.in_ok-at.ensures.cases (λ e p. p)) ∙ entry.ensures.answered)).2)

pub loop-at-preserved : goal.loop-at-preserved
loop-at-preserved c =
    let l = c.loop-at in
    let loop-test = c.loop-at-test in
    let a = c.args in
    let entry = c.entry in
    (run_turn _ _ _ _ _ l.invariant loop-test.true _ (take_all (length a.log.now - l.at) (drop l.at a.log.now) (omega (arith, length-drop l.at a.log.now))) _ entry.ensures.stored _ (ap answer_of (mapped_ok _ c.entry.result _ _ c.in_ok-at.ensures.cases (λ e p. p)) ∙ entry.ensures.answered)).0

pub returns : goal.returns
returns c =
    let both = run_end _ _ _ _ _ c.loop-at.invariant c.loop-at-test.false in
    record { answered = both.0; stored = both.1 }
