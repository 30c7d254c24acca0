-- `plan::naks::each_within` meets its contract. The loop's invariant: the NAKs that are left decide, with the requests that are left.
use mathlib.Core.Path.{◌≡◌}
use lib.ListN.{drop}
use Rattle.plan.specs.Plans.{each_within}
use Rattle.plan.specs.Gaps.{pairs, naks_of}
use Rattle.plan.proofs.naks.each_within.Given as goal

abbrev pub invariant-loop-start : goal.invariant-loop-start
invariant-loop-start l = each_within (naks_of (drop l.start-index l.naks)) (pairs l.rest) ≡ each_within (naks_of l.naks) (pairs l.requests)
