-- `cfdp::receive::cfdp_receive` meets its contract: the parts of the call, each in its place.
use mathlib.Core.Path.{ap, ◌∙◌}
use Rattle.receiver.specs.Receiving.{Call}
use Rattle.cfdp.specs.Received.{outcome_shown}
use Rattle.cfdp.proofs.receive.cfdp_receive.Goals as goal

pub returns : goal.returns
returns c =
    let e = c.receive-got.ensures in
    let kept = ap (λ (k : Call). k.leaves.window) e in
    let counted = ap (λ (k : Call). k.leaves.filled) e in
    let answered = c.show_outcome.ensures ∙ ap (λ (k : Call). outcome_shown k.gives) e in
    record { took = ap (λ (k : Call). k.taken) e; kept = kept; counted = counted; answered = answered }
