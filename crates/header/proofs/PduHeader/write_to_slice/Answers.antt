-- `header::PduHeader::write_to_slice` meets its contract: the answer, and the buffer that goes with it.
use mathlib.Core.Path.{◌∙◌}
use Rattle.fields.proofs.Handed.{handed_on}
use Rattle.header.proofs.Judging.{sound}
use Rattle.header.proofs.Writing.{refused_write, written_passed, written_room, accepted_write}
use Rattle.header.proofs.PduHeader.write_to_slice.Goals as goal

pub put_header-requires : goal.put_header-requires
put_header-requires c =
    let e = c.in_ok-len.ensures in
    (sound _ (written_passed _ _ _ e), written_room _ _ _ e)

pub returns-in_err-len : goal.returns-in_err-len
returns-in_err-len c =
    let both = refused_write _ _ _ c.in_err-len.ensures in
    record { answered = handed_on _ _ c.from_residual.ensures.1 ∙ both.0; stored = both.1 }

pub returns : goal.returns
returns c =
    let both = accepted_write _ _ _ _ c.in_ok-len.ensures c.put_header.ensures in
    record { answered = both.0; stored = both.1 }
