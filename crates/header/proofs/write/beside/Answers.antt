-- `header::write::beside` meets its contract: the shift multiplies, and the or adds what lies below it.
use lib.Bits.{or_shifted}
use native.Mathlib.Nat.{mod-eq_of_lt}
use Rattle.header.proofs.write.beside.Goals as goal

pub returns : goal.returns
returns c = rw (mod-eq_of_lt c.requires.1) (or_shifted _ _ _ c.requires.2)
