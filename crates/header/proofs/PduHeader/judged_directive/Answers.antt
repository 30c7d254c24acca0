-- `header::PduHeader::judged_directive` meets its contract: the record's refusal, or the test behind it.
use mathlib.Core.Path.{◌∙◌}
use Rattle.fields.proofs.Handed.{handed_on}
use Rattle.header.proofs.Judging.{passed_tests}
use Rattle.header.proofs.Pdus.{refused_record, type_decides}
use Rattle.header.proofs.PduHeader.judged_directive.Goals as goal

pub returns-in_err-judged : goal.returns-in_err-judged
returns-in_err-judged c = handed_on _ _ c.from_residual.ensures.1 ∙ refused_record _ _ c.in_err-judged.ensures

pub returns : goal.returns
returns c =
    c.judge_type.ensures ∙ type_decides _ (passed_tests _ _ c.in_ok-judged.ensures)
