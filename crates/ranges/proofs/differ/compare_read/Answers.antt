-- `ranges::differ::compare_read` meets its contract: the second reading's refusal, or the pairs of both decide.
use mathlib.Core.Path.{◌∙◌}
use native.Mathlib.Omega.{arith}
use Rattle.fields.proofs.Handed.{handed_on}
use Rattle.ranges.proofs.Sources.{requests_start, requests_few}
use Rattle.ranges.proofs.Differing.{second_refused, second_read}
use Rattle.ranges.proofs.differ.compare_read.Goals as goal

pub returns-in_err-nak2 : goal.returns-in_err-nak2
returns-in_err-nak2 c =
    let both = second_refused _ _ _ _ _ c.in_err-nak2.ensures in
    record { answered = handed_on _ _ c.from_residual.ensures.1 ∙ both.answered; stored = both.stored }

pub compare_pairs-requires : goal.compare_pairs-requires
compare_pairs-requires c =
    let a = c.args in (
      omega (arith, requests_few _ a.first.now _ (requests_start _ _ c.segment_request_iter.result c.segment_request_iter.ensures)),
      omega (arith, requests_few _ a.second.now _ (requests_start _ _ c.segment_request_iter-2.result c.segment_request_iter-2.ensures)),
    )

pub returns : goal.returns
returns c =
    second_read _ _ _ c.args.lent.now _ c.in_ok-nak2.ensures _ _ _ c.same_transaction-same.ensures
    (requests_start _ _ c.segment_request_iter.result c.segment_request_iter.ensures) (requests_start _ _ c.segment_request_iter-2.result c.segment_request_iter-2.ensures) _ _ c.compare_pairs.ensures
