-- `tlv::walk::first_cut` meets its contract. The loop's invariant: from here whole fields reach as far as from the start.
use Prim.Native.Nat.{◌-◌}
use mathlib.Core.Path.{◌≡◌}
use lib.ListN.{length}
use Rattle.tlv.specs.Walking.{reach}
use Rattle.tlv.proofs.walk.first_cut.Given as goal

abbrev pub invariant-loop-stop : goal.invariant-loop-stop
invariant-loop-stop l = reach l.form l.area l.at ≡ reach l.form l.area l.from

abbrev pub decreases-loop-stop : goal.decreases-loop-stop
decreases-loop-stop l = length l.area - l.at
