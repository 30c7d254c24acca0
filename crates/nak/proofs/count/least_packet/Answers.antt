-- `nak::count::least_packet` meets its contract: where the requests start, and a checksum.
use native.Mathlib.Omega.{arith}
use Rattle.nak.proofs.Counting.{least_is}
use Rattle.nak.proofs.count.least_packet.Goals as goal

pub returns : goal.returns
returns c = (least_is _ _ _ c.area_start.ensures.0 c.bit.ensures.0, omega arith)
