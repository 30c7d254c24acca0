-- `cfdp::eofs::fault_from` meets its contract: there is one, or not.
use mathlib.Core.Path.{sym, ap}
use mathlib.Core.Bool.{Bool}
use Rattle.cfdp.specs.Given.{fault_from}
use Rattle.cfdp.proofs.eofs.fault_from.Goals as goal

pub returns-then-not-there : goal.returns-then-not-there
returns-then-not-there c = ap (λ (b : Bool). fault_from b c.args.width c.args.value) (sym c.if-not-there.true)

pub returns : goal.returns
returns c =
    ap (λ (b : Bool). fault_from b c.args.width c.args.value) (sym c.if-not-there.false)
