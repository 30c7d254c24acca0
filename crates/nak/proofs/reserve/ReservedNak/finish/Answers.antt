-- `nak::reserve::ReservedNak::finish` meets its contract: the NAK around the requests, or no byte changed.
use mathlib.Core.Path.{◌∙◌}
use Rattle.nak.proofs.Reserving.{as_placed}
use Rattle.nak.proofs.reserve.ReservedNak.finish.Goals as goal

pub returns : goal.returns
returns c =
    let a = c.args in
    let write-around = c.write_around in
    let same = as_placed a.self a.start a.end a.buf.now in
    record { answered = write-around.ensures.answered ∙ same.0; stored = write-around.ensures.stored ∙ same.1 }
