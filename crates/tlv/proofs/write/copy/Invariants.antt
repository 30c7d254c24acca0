-- `tlv::write::copy` meets its contract. The loop's invariant: storing the bytes that are left gives what is to be stored.
use Prim.Native.Nat.{◌+◌}
use mathlib.Core.Path.{◌≡◌}
use lib.ListN.{drop}
use lib.Seq.{sets}
use Rattle.tlv.proofs.write.copy.Given as goal

abbrev pub invariant-loop-i : goal.invariant-loop-i
invariant-loop-i l = sets l.buf (l.at + l.i) (drop l.i l.bytes) ≡ sets l.initial.buf l.at l.bytes
