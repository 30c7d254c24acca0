-- `fields::be::number_at` meets its contract. The loop's invariant: the value so far and the bytes that are left give the number, and the value has as many bytes as were read.
use mathlib.Core.Path.{◌≡◌}
use Prim.Native.Nat.{◌+◌, ◌-◌, ◌^◌, ◌<◌}
use lib.ListN.{take, drop}
use Rattle.fields.specs.BigEndian.{be_from, number_at}
use Rattle.fields.proofs.be.number_at.Given as goal

abbrev pub invariant-loop-i : goal.invariant-loop-i
invariant-loop-i l =
    (l.value < 256 ^ l.i) × (be_from l.value (take (l.width - l.i) (drop (l.at + l.i) l.s)) ≡ number_at l.s l.at l.width)
