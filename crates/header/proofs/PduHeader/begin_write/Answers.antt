-- `header::PduHeader::begin_write` meets its contract: the answer, and the buffer that goes with it.
use mathlib.Core.Path.{◌∙◌}
use Rattle.fields.proofs.Handed.{handed_on}
use Rattle.header.proofs.Pdus.{storable, nothing_begun, header_begun}
use Rattle.header.proofs.PduHeader.begin_write.Goals as goal

pub put_header-requires : goal.put_header-requires
put_header-requires c =
    storable _ _ _ _ c.in_ok-length.ensures

pub returns-in_err-length : goal.returns-in_err-length
returns-in_err-length c =
    let both = nothing_begun _ _ _ _ c.in_err-length.ensures in
    record { answered = handed_on _ _ c.from_residual.ensures.1 ∙ both.0; stored = both.1 }

pub returns : goal.returns
returns c =
    let both = header_begun _ _ _ _ _ c.in_ok-length.ensures c.put_header.ensures in
    record { answered = both.0; stored = both.1 }
