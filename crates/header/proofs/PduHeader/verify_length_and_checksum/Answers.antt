-- `header::PduHeader::verify_length_and_checksum` meets its contract: the judgement's refusal, or the stages behind it.
use mathlib.Core.Path.{sym, ◌∙◌}
use Rattle.fields.proofs.Handed.{handed_on}
use Rattle.header.proofs.Judging.{passed_tests}
use Rattle.header.proofs.Verifying.{refused_verify, passed_verify}
use Rattle.header.proofs.PduHeader.verify_length_and_checksum.Goals as goal

pub returns-in_err-judged : goal.returns-in_err-judged
returns-in_err-judged c = handed_on _ _ c.from_residual.ensures.1 ∙ refused_verify _ _ _ c.in_err-judged.ensures

pub returns : goal.returns
returns c =
    c.verify_read.ensures ∙ sym (passed_verify _ _ (passed_tests _ _ c.in_ok-judged.ensures))
