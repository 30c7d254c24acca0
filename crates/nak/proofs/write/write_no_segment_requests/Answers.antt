-- `nak::write::write_no_segment_requests` meets its contract: a NAK around no pair is one with no list.
use mathlib.Core.Path.{◌∙◌}
use Rattle.nak.proofs.Reserving.{none_finished}
use Rattle.nak.proofs.write.write_no_segment_requests.Goals as goal

pub returns : goal.returns
returns c =
    let a = c.args in
    let write-around = c.write_around in
    let same = none_finished a.header a.start a.end a.buf.now in
    record { answered = write-around.ensures.answered ∙ same.0; stored = write-around.ensures.stored ∙ same.1 }
