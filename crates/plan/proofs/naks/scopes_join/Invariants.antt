-- `plan::naks::scopes_join` meets its contract. The loop's invariant: the scopes that are left decide, from the last end on.
use mathlib.Core.Path.{◌≡◌}
use lib.ListN.{drop}
use Rattle.plan.specs.Plans.{join_from}
use Rattle.plan.specs.Gaps.{naks_of}
use Rattle.plan.proofs.naks.scopes_join.Given as goal

abbrev pub invariant-loop-from : goal.invariant-loop-from
invariant-loop-from l = join_from l.at l.end (naks_of (drop l.from-index l.naks)) ≡ join_from l.start l.end (naks_of l.naks)
