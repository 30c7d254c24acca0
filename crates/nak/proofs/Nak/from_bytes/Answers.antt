-- `nak::Nak::from_bytes` meets its contract: the PDU's refusal, or what the test behind its code says.
use mathlib.Core.Path.{◌∙◌}
use native.Mathlib.Omega.{arith}
use Rattle.fields.proofs.Handed.{handed_on}
use Rattle.nak.proofs.Reading.{refused_pdu, lies, scope_short, scope_there, nak_read}
use Rattle.nak.proofs.Nak.from_bytes.Goals as goal

pub slice_bounds-nak_in-count : goal.slice_bounds-nak_in-count
slice_bounds-nak_in-count c = omega (arith, (lies _ _ c.in_ok-pdu.ensures _ c.header_len-at.ensures.0).before)

pub slice_bounds-nak_in-start : goal.slice_bounds-nak_in-start
slice_bounds-nak_in-start c = omega (arith, (lies _ _ c.in_ok-pdu.ensures _ c.header_len-at.ensures.0).before)

pub slice_bounds-nak_in-end : goal.slice_bounds-nak_in-end
slice_bounds-nak_in-end c = omega (arith, (lies _ _ c.in_ok-pdu.ensures _ c.header_len-at.ensures.0).inside)

pub nak_in-requires : goal.nak_in-requires
nak_in-requires c =
    let v = lies _ _ c.in_ok-pdu.ensures _ c.header_len-at.ensures.0 in
    let there = scope_there _ _ c.in_ok-pdu.ensures _ c.header_len-at.ensures.0 _ c.area_start.ensures.0 c.in_ok-judge_data.ensures in
    (omega (arith, there, c.area_start.ensures.0, v.stop_is), v.size ∙ v.stop_is)

pub returns-in_err-pdu : goal.returns-in_err-pdu
returns-in_err-pdu c = handed_on _ _ c.from_residual.ensures.1 ∙ refused_pdu _ _ c.in_err-pdu.ensures

pub returns-in_err-judge_data : goal.returns-in_err-judge_data
returns-in_err-judge_data c =
    handed_on _ _ c.from_residual-in_err-judge_data.ensures.1
    ∙ scope_short _ _ c.in_ok-pdu.ensures _ c.header_len-at.ensures.0 _ c.area_start.ensures.0 _ c.in_err-judge_data.ensures

pub returns : goal.returns
returns c = nak_read _ _ c.in_ok-pdu.ensures _ c.header_len-at.ensures.0 _ c.area_start.ensures.0 c.in_ok-judge_data.ensures _ c.nak_in.ensures
