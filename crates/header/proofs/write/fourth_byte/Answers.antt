-- `header::write::fourth_byte` meets its contract: bits set beside each other are the sum of their values.
use native.Mathlib.Omega.{arith}
use Rattle.header.specs.Header.{fourth_byte}
use Rattle.header.proofs.write.fourth_byte.Goals as goal

pub returns : goal.returns
unfolding fourth_byte
returns c = omega arith
