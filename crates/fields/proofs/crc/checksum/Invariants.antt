-- `fields::crc::checksum` meets its contract. The loop's invariant: the register, which is the two bytes, and the bytes that are left give the checksum of the whole.
use mathlib.Core.Path.{◌≡◌}
use Prim.Native.Nat.{◌+◌, ◌*◌, ◌<◌}
use lib.ListN.{drop}
use Rattle.fields.specs.Checksum.{checksum_from, checksum_of}
use Rattle.fields.proofs.crc.checksum.Given as goal

abbrev pub invariant-loop-byte : goal.invariant-loop-byte
invariant-loop-byte l =
    (l.upper < 256) × (l.lower < 256) × (checksum_from (l.upper * 256 + l.lower) (drop l.byte-index l.s) ≡ checksum_of l.s)
