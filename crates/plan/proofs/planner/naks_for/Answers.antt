-- `plan::planner::naks_for` meets its contract. A quotient rounded up.
use native.Mathlib.Omega.{arith}
use mathlib.Core.Path.{◌∙◌}
use Rattle.plan.proofs.Planning.{naks_none, rounded_up}
use Rattle.plan.proofs.planner.naks_for.Goals as goal

pub returns-then-ranges-eq0 : goal.returns-then-ranges-eq0
returns-then-ranges-eq0 c = naks_none c.args.ranges c.args.most c.if-ranges-eq0.true

pub returns : goal.returns
returns c = c.div_ceil.ensures ∙ rounded_up c.args.ranges c.args.most (c.requires (omega (arith, c.if-ranges-eq0.false)))
