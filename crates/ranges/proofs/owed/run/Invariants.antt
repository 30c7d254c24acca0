-- `ranges::owed::run` meets its contract. The loop's invariant: running the rest from here gives the answer.
use mathlib.Core.Path.{◌≡◌}
use Prim.Native.Nat.{◌-◌}
use lib.ListN.{length, drop}
use Rattle.ranges.specs.Log.{running}
use Rattle.ranges.proofs.owed.run.Given as goal

abbrev pub invariant-loop-at : goal.invariant-loop-at
invariant-loop-at l = running l.at (drop l.at l.log) l.state ≡ running l.from (drop l.from l.log) l.initial.state

abbrev pub decreases-loop-at : goal.decreases-loop-at
decreases-loop-at l = length l.log - l.at
