-- `ranges::owed::rise` meets its contract. The loop's invariant: testing the ranges that are left gives the answer.
use Prim.Native.Nat.{◌*◌}
use mathlib.Core.Path.{◌≡◌}
use lib.ListN.{take}
use Rattle.ranges.specs.Pairs.{twos}
use Rattle.ranges.specs.Memory.{rises}
use Rattle.ranges.proofs.Memory.{left}
use Rattle.ranges.proofs.owed.rise.Given as goal

abbrev pub invariant-loop-i : goal.invariant-loop-i
invariant-loop-i l = rises l.last (left l.state l.count l.i) ≡ rises 0 (twos (take (2 * l.count) l.state))
