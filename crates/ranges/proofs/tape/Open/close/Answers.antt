-- `ranges::tape::Open::close` meets its contract: a range that is open is stored and counted, and of label 0 none is.
use native.Mathlib.Omega.{arith}
use Rattle.ranges.proofs.Laying.{close_none, close_some, closing_some}
use Rattle.ranges.proofs.tape.Open.close.Goals as goal

pub returns-then-label-eq0 : goal.returns-then-label-eq0
returns-then-label-eq0 c = close_none _ _ _ _ c.if-label-eq0.true

pub overflow_add-result : goal.overflow_add-result
overflow_add-result c = record { fits = omega (arith, closing_some _ c.if-label-eq0.false) }

pub returns : goal.returns
returns c = close_some _ _ _ _ c.if-label-eq0.false _ c.place.ensures
