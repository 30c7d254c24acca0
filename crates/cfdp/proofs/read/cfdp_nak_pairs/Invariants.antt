-- `cfdp::read::cfdp_nak_pairs` meets its contract. The loop's invariant: storing the pairs that are left gives what is to be stored.
use Prim.Native.Nat.{◌-◌, ◌*◌, ◌≤◌}
use mathlib.Core.Path.{◌≡◌}
use lib.ListN.{length, take, drop}
use lib.Seq.{sets}
use Rattle.nak.specs.Cases.{flat}
use Rattle.cfdp.specs.Pairs.{pairs_in}
use Rattle.cfdp.proofs.read.cfdp_nak_pairs.Given as goal

abbrev pub invariant-loop-i : goal.invariant-loop-i
invariant-loop-i l =
    (l.i ≤ length (take l.room (pairs_in l.large l.area))) × (sets l.numbers (2 * l.i) (flat (drop l.i (take l.room (pairs_in l.large l.area)))) ≡ sets l.initial.numbers 0 (flat (take l.room (pairs_in l.large l.area))))

abbrev pub decreases-loop-i : goal.decreases-loop-i
decreases-loop-i l = l.room - l.i
