-- `header::directive::DirectivePdu::from_bytes` meets its contract: the refusal of the PDU, or what its code says.
use mathlib.Core.Path.{sym, ◌∙◌}
use Rattle.fields.proofs.Handed.{handed_on}
use Rattle.header.proofs.Directives.{no_pdu, code_lies, unknown_read, known_read, own_read}
use Rattle.header.proofs.directive.DirectivePdu.from_bytes.Goals as goal

pub bounds-buf-at : goal.bounds-buf-at
bounds-buf-at c =
    code_lies 0 _ _ c.in_ok-pdu.ensures _ c.header_len-at.ensures.0

pub returns-in_err-pdu : goal.returns-in_err-pdu
returns-in_err-pdu c = handed_on _ _ c.from_residual.ensures.1 ∙ no_pdu _ _ _ c.in_err-pdu.ensures

pub returns-in-Unknown : goal.returns-in-Unknown
returns-in-Unknown c =
    unknown_read _ _ _ c.in_ok-pdu.ensures _ c.header_len-at.ensures.0
    (sym c.in-Unknown.is ∙ c.from_code-kind.ensures)

pub returns-in-Known : goal.returns-in-Known
returns-in-Known c =
    known_read _ _ _ c.in_ok-pdu.ensures _ c.header_len-at.ensures.0
    (sym c.in-Known.is ∙ c.from_code-kind.ensures)

pub returns-in-Own : goal.returns-in-Own
returns-in-Own c =
    own_read _ _ _ c.in_ok-pdu.ensures _ c.header_len-at.ensures.0
    (sym c.in-Own.is ∙ c.from_code-kind.ensures)
