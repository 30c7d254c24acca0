-- `nak::reserve::pairs_length` meets its contract: 10, or the length of so many pairs.
use mathlib.Core.Path.{ap, ◌∙◌}
use mathlib.Core.List.{[], ◌∷◌}
use Rattle.fields.specs.Answer.{accepted}
use Rattle.fields.proofs.Handed.{handed_on}
use Rattle.fields.proofs.Judging.{judged_passed}
use Rattle.nak.specs.Writing.{too_many}
use Rattle.nak.proofs.Tests.{pairs_fit, reserve_refused, reserve_passes}
use Rattle.nak.proofs.reserve.pairs_length.Goals as goal

pub length_of-requires : goal.length_of-requires
length_of-requires c =
    let a = c.args in
    pairs_fit a.file a.pairs (judged_passed (too_many a.file a.pairs ∷ []) c.in_ok-judge_pairs.ensures)

pub returns-in_err-judge_pairs : goal.returns-in_err-judge_pairs
returns-in_err-judge_pairs c = handed_on _ _ c.from_residual.ensures.1 ∙ reserve_refused _ c.args.file c.args.pairs _ c.in_err-judge_pairs.ensures

pub returns : goal.returns
returns c = ap accepted c.length_of.ensures ∙ reserve_passes _ c.args.file c.args.pairs c.in_ok-judge_pairs.ensures
