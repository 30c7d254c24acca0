-- `nak::reserve::write_around` meets its contract: the NAK around the requests, or no byte changed.
use mathlib.Core.Path.{◌∙◌}
use Rattle.fields.proofs.Handed.{handed_on}
use Rattle.nak.specs.Reserving.{placed}
use Rattle.nak.proofs.Reserving.{not_finished, finish_goes, finished}
use Rattle.nak.proofs.reserve.write_around.Goals as goal

pub put_scope-requires : goal.put_scope-requires
put_scope-requires c =
    let a = c.args in
    let begun = c.in_ok-length.ensures in
    finish_goes (placed a.header a.pairs) a.start a.end a.buf.now _ c.towards_sender.ensures _ c.finished_length-own.ensures _
    c.with_data-header.ensures _ _ begun.answered begun.stored

pub returns-in_err-length : goal.returns-in_err-length
returns-in_err-length c =
    let a = c.args in
    let begun = c.in_err-length.ensures in
    let both = not_finished (placed a.header a.pairs) _ _ _ _ c.towards_sender.ensures _ c.finished_length-own.ensures _
    c.with_data-header.ensures _ _ begun.answered begun.stored in
    record { answered = handed_on _ _ c.from_residual.ensures.1 ∙ both.0; stored = both.1 }

pub returns : goal.returns
returns c =
    let a = c.args in
    let begun = c.in_ok-length.ensures in
    let both = finished (placed a.header a.pairs) _ _ _ _ c.towards_sender.ensures _ c.finished_length-own.ensures _
    c.with_data-header.ensures _ _ begun.answered begun.stored _ _ c.put_scope.ensures c.seal.ensures in
    record { answered = both.0; stored = both.1 }
