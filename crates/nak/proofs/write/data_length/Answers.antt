-- `nak::write::data_length` meets its contract: 12, 9, 10, or the length of so many pairs.
use mathlib.Core.Path.{ap, ◌∙◌}
use mathlib.Core.List.{[], ◌∷◌}
use Prim.Native.Nat.{◌/◌}
use Rattle.fields.specs.Answer.{accepted}
use Rattle.fields.proofs.Handed.{handed_on}
use Rattle.fields.proofs.Judging.{judged_passed}
use Rattle.nak.specs.Writing.{too_many}
use Rattle.nak.proofs.Tests.{odd_count_lem, bad_scope, too_many_lem, none_holds, pairs_fit}
use Rattle.nak.proofs.write.data_length.Goals as goal

pub returns-then-count-ne0 : goal.returns-then-count-ne0
returns-then-count-ne0 c = odd_count_lem _ _ _ _ _ c.if-count-ne0.true

pub returns-in_err-judge_scope : goal.returns-in_err-judge_scope
returns-in_err-judge_scope c = handed_on _ _ c.from_residual.ensures.1 ∙ bad_scope _ _ _ _ _ c.if-count-ne0.false _ c.in_err-judge_scope.ensures

pub returns-in_err-judge_pairs : goal.returns-in_err-judge_pairs
returns-in_err-judge_pairs c =
    handed_on _ _ c.from_residual-in_err-judge_pairs.ensures.1 ∙ too_many_lem _ _ _ _ _ c.if-count-ne0.false c.in_ok-judge_scope.ensures _ c.in_err-judge_pairs.ensures

pub length_of-requires : goal.length_of-requires
length_of-requires c =
    let a = c.args in
    pairs_fit a.file (a.count / 2) (judged_passed (too_many a.file (a.count / 2) ∷ []) c.in_ok-judge_pairs.ensures)

pub returns : goal.returns
returns c = ap accepted c.length_of.ensures ∙ none_holds _ _ _ _ _ c.if-count-ne0.false c.in_ok-judge_scope.ensures c.in_ok-judge_pairs.ensures
