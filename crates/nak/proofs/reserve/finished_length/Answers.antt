-- `nak::reserve::finished_length` meets its contract: 10, 9, or the length of so many pairs.
use mathlib.Core.Path.{ap, ◌∙◌}
use mathlib.Core.List.{[], ◌∷◌}
use Rattle.fields.specs.Answer.{accepted}
use Rattle.fields.proofs.Handed.{handed_on}
use Rattle.fields.proofs.Judging.{passed}
use Rattle.nak.specs.Writing.{data_length, too_many}
use Rattle.nak.proofs.Tests.{finish_refused, finish_scope, finish_passes}
use Rattle.nak.proofs.reserve.finished_length.Goals as goal

pub returns-in_err-length : goal.returns-in_err-length
returns-in_err-length c = handed_on _ _ c.from_residual.ensures.1 ∙ finish_refused _ _ _ _ _ _ c.in_err-length.ensures

pub returns-in_err-judge_scope : goal.returns-in_err-judge_scope
returns-in_err-judge_scope c =
    let a = c.args in
    let p = passed (too_many a.file a.pairs ∷ []) _ (data_length a.file a.crc a.pairs) c.in_ok-length.ensures in
    handed_on _ _ c.from_residual-in_err-judge_scope.ensures.1 ∙ finish_scope _ _ _ _ _ p.0 _ c.in_err-judge_scope.ensures

pub returns : goal.returns
returns c =
    let a = c.args in
    let p = passed (too_many a.file a.pairs ∷ []) _ (data_length a.file a.crc a.pairs) c.in_ok-length.ensures in
    ap accepted p.1 ∙ finish_passes _ _ _ _ _ p.0 c.in_ok-judge_scope.ensures
