-- `header::write::first_byte` meets its contract: bits set beside each other are the sum of their values.
use native.Mathlib.Omega.{arith}
use Rattle.header.specs.Header.{first_byte}
use Rattle.header.proofs.write.first_byte.Goals as goal

pub returns : goal.returns
unfolding first_byte
returns c = omega arith
