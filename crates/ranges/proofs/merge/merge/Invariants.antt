-- `ranges::merge::merge` meets its contract: storing and counting what is left from here gives all, at each place where a side changes.
use Prim.Native.Nat.{◌-◌}
use Rattle.ranges.specs.Merging.{largest}
use Rattle.ranges.specs.Sources.{pairs_in}
use Rattle.ranges.specs.Within.{ahead}
use Rattle.ranges.proofs.Merging.{Walk}
use Rattle.ranges.proofs.merge.merge.Given as goal

abbrev pub invariant-loop-at : goal.invariant-loop-at
invariant-loop-at l =
    Walk l.rule l.labelled (pairs_in l.one) (pairs_in l.other) l.initial.out l.out (ahead l.first) (ahead l.second) l.open l.at

abbrev pub decreases-loop-at : goal.decreases-loop-at
decreases-loop-at l = largest - l.at
