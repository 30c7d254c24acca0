-- `plan::judge::apart_behind` meets its contract. The loop's invariant: the ranges that are left decide, behind the last end.
use mathlib.Core.Path.{◌≡◌}
use lib.ListN.{drop}
use Rattle.plan.specs.Missing.{apart_behind}
use Rattle.plan.specs.Gaps.{pairs}
use Rattle.plan.proofs.judge.apart_behind.Given as goal

abbrev pub invariant-loop-from : goal.invariant-loop-from
invariant-loop-from l = apart_behind l.last (pairs (drop l.from-index l.ranges)) ≡ apart_behind l.end (pairs l.ranges)
