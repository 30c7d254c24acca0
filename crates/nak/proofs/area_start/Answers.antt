-- `nak::area_start` meets its contract: h, the code and the scope.
use Rattle.nak.proofs.Reading.{area_is}
use native.Mathlib.Omega.{arith}
use Rattle.nak.proofs.area_start.Goals as goal

pub returns : goal.returns
returns c = (area_is _ _ _ c.header_len.ensures.0 c.size_width.ensures.0, omega arith)
