-- `header::read::three_at` meets its contract: a mask of three ones is the remainder by 8.
use lib.Bits.{and_mask}
use Rattle.header.proofs.read.three_at.Goals as goal

pub returns : goal.returns
returns c = and_mask _ 3
