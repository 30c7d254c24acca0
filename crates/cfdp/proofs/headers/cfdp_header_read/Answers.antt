-- `cfdp::headers::cfdp_header_read` meets its contract: the reading, refused or accepted, as numbers.
use mathlib.Core.Path.{sym, ap, ◌∙◌}
use Rattle.fields.specs.Answer.{answer_of}
use Rattle.cfdp.specs.Shown.{read_header_numbers}
use Rattle.cfdp.proofs.Shown.{refused_shown, read_header_shown}
use Rattle.cfdp.proofs.headers.cfdp_header_read.Goals as goal

pub returns-in-Err : goal.returns-in-Err
returns-in-Err c =
    let from_bytes = c.from_bytes-read in
    refused_shown read_header_numbers _ _ _ (ap answer_of (sym c.in-Err.is) ∙ from_bytes.ensures) c.show_refusal.ensures

pub returns-in-Ok : goal.returns-in-Ok
returns-in-Ok c =
    let from_bytes = c.from_bytes-read in
    let header-len = c.header_len-length in
    read_header_shown _ _ _ _ (ap answer_of (sym c.in-Ok.is) ∙ from_bytes.ensures) header-len.ensures.0 c.show_header.ensures
