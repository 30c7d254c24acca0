-- `ranges::order::first_out_of_order` meets its contract: the number of the first pair out of order among those that are left is that of all.
use Prim.Native.Nat.{◌+◌}
use mathlib.Core.Path.{◌≡◌}
use lib.ListN.{length}
use Rattle.ranges.specs.Sources.{pairs_in}
use Rattle.ranges.specs.Order.{out_of_order}
use Rattle.ranges.proofs.order.first_out_of_order.Given as goal

abbrev pub invariant-loop-i : goal.invariant-loop-i
invariant-loop-i l = record {
  number : l.i-iterator.count + length (pairs_in l.i-iterator.iter) ≡ length (pairs_in l.pairs);
  same : out_of_order (l.number + l.i-iterator.count) l.last (pairs_in l.i-iterator.iter) ≡ out_of_order l.number 0 (pairs_in l.pairs);
}
