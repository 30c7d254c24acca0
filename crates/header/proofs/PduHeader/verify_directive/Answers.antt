-- `header::PduHeader::verify_directive` meets its contract: the verification's refusal, the length, or the tests behind it.
use mathlib.Core.Path.{ap, ◌∙◌}
use Rattle.fields.specs.Answer.{answer_of}
use Rattle.fields.proofs.Handed.{handed_on}
use Rattle.header.proofs.Verifying.{verified}
use Rattle.header.proofs.Directives.{refused_verified, short_9, tests_decide}
use Rattle.header.proofs.PduHeader.verify_directive.Goals as goal

pub returns-then-buf-lt-LEAST_LEN : goal.returns-then-buf-lt-LEAST_LEN
returns-then-buf-lt-LEAST_LEN c =
    ap answer_of c.short.ensures
    ∙ short_9 _ _ _ (verified _ _ _ c.in_ok-stop.ensures) c.if-buf-lt-LEAST_LEN.true

pub returns-in_err-stop : goal.returns-in_err-stop
returns-in_err-stop c = handed_on _ _ c.from_residual.ensures.1 ∙ refused_verified _ _ _ c.in_err-stop.ensures

pub returns : goal.returns
returns c =
    c.judge_directive.ensures
    ∙ tests_decide _ _ _ (verified _ _ _ c.in_ok-stop.ensures) c.if-buf-lt-LEAST_LEN.false
