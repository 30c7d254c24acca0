-- `listing::print_nak` ends: a pair that was printed is no longer left. Nothing else is kept from turn to turn.
use mathlib.Core.Path.{ap}
use native.Mathlib.Omega.{arith}
use lib.ListN.{length}
use Rattle.listing.proofs.print_nak.Goals as goal

pub loop-start-preserved : goal.loop-start-preserved
loop-start-preserved c = (tt, tt)

pub loop-start-smaller : goal.loop-start-smaller
loop-start-smaller c = let shown = ap length c.in-Some.ensures.steps in omega (arith, shown)
