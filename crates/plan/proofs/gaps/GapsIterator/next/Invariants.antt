-- `plan::gaps::Gaps::next` meets its contract. The loop's invariant: the gaps that are left stay the same.
use Rattle.std.proofs.Common.{◌≡◌, length}
use Rattle.plan.specs.Gaps.{gaps, pairs}
use Rattle.plan.proofs.gaps.GapsIterator.next.Given as goal

abbrev pub invariant-loop-start : goal.invariant-loop-start
invariant-loop-start l = gaps l.self.at l.self.stop (pairs l.self.received.now) ≡ gaps l.initial.self.at l.initial.self.stop (pairs l.initial.self.received.now)

abbrev pub decreases-loop-start : goal.decreases-loop-start
decreases-loop-start l = length l.self.received.now
