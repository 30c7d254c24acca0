-- `header::PduHeader::judge_directive` meets its contract: the tests, one after the other.
use mathlib.Core.Path.{refl, ◌∙◌}
use Rattle.fields.proofs.Handed.{handed_on}
use Rattle.header.proofs.Directives.{least_short, no_directive, no_code, code_there}
use Rattle.header.proofs.PduHeader.judge_directive.Goals as goal

pub returns-in_err-judge_data : goal.returns-in_err-judge_data
returns-in_err-judge_data c =
    let a = c.args in
    handed_on _ _ c.from_residual.ensures.1 ∙ least_short a.self a.stop _ refl _ c.in_err-judge_data.ensures

pub returns-in_err-judge_type : goal.returns-in_err-judge_type
returns-in_err-judge_type c =
    let a = c.args in
    handed_on _ _ c.from_residual-in_err-judge_type.ensures.1 ∙ no_directive a.self a.stop _ refl c.in_ok-judge_data.ensures _
    c.in_err-judge_type.ensures

pub returns-in_err-judge_data-2 : goal.returns-in_err-judge_data-2
returns-in_err-judge_data-2 c =
    handed_on _ _ c.from_residual-in_err-judge_data-2.ensures.1 ∙ no_code _ _ _ c.header_len.ensures.0 c.in_ok-judge_data.ensures
    c.in_ok-judge_type.ensures _
    c.in_err-judge_data-2.ensures

pub returns : goal.returns
returns c =
    code_there _ _ _ c.header_len.ensures.0 c.in_ok-judge_data.ensures
    c.in_ok-judge_type.ensures
    c.in_ok-judge_data-2.ensures
