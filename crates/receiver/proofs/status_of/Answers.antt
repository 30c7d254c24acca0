-- `receiver::status_of` meets its contract: the NAK's reading of the bytes that are there, capped.
use mathlib.Core.Path.{sym, ap, ◌∙◌}
use native.Mathlib.Omega.{arith}
use lib.Seq.{length-take-le}
use Rattle.fields.specs.Answer.{answer_of}
use Rattle.receiver.proofs.Window.{window_says}
use Rattle.receiver.proofs.status_of.Goals as goal

pub slice_bounds-from_bytes-end : goal.slice_bounds-from_bytes-end
slice_bounds-from_bytes-end c = sym (length-take-le c.min-end.result c.args.window.now (omega arith))

pub returns-in-Ok : goal.returns-in-Ok
returns-in-Ok c =
    window_says _ _ _ _ c.requires c.min-end.ensures
    (ap answer_of (sym c.in-Ok.is) ∙ c.from_bytes-read.ensures)

pub returns-in-Err : goal.returns-in-Err
returns-in-Err c =
    let pre = c.requires in
    let from_bytes = c.from_bytes-read in
    c.refused.ensures
    ∙ window_says _ _ _ _ pre c.min-end.ensures
    (ap answer_of (sym c.in-Err.is) ∙ from_bytes.ensures)
