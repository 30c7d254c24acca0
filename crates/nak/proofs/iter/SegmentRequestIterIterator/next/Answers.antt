-- `next` of the reader meets its contract: a pair that its cursor shows is the first of those that are left.
use mathlib.Core.Path.{ap}
use native.Mathlib.Omega.{arith}
use lib.ListN.{length}
use Rattle.nak.proofs.Walking.{next_shows, next_over}
use Rattle.nak.proofs.iter.SegmentRequestIterIterator.next.Goals as goal

pub returns-in_err-request-clause-steps : goal.returns-in_err-request-clause-steps
returns-in_err-request-clause-steps c = rw c.from_residual.ensures (next_over _ _ _ c.in_err-request.ensures, next_over _ _ _ c.in_err-request.ensures)

pub returns-clause-steps : goal.returns-clause-steps
returns-clause-steps c = (next_shows _ _ _ _ c.in_ok-request.ensures).0

pub returns-clause-goes : goal.returns-clause-goes
returns-clause-goes c =
    let shown = ap length (next_shows _ _ _ _ c.in_ok-request.ensures).0 in
    record { on = λ _. (tt, tt, omega (arith, shown)); keeps = tt; rests = λ _. tt }
