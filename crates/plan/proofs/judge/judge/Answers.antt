-- `plan::judge::judge` meets its contract. A refusal of C-08 comes first, then those of the ranges.
use mathlib.Core.Path.{◌∙◌}
use Rattle.fields.proofs.Handed.{handed_on}
use Rattle.plan.proofs.Judging.{refused_first, refused_behind, none_refused}
use Rattle.plan.proofs.judge.judge.Goals as goal

pub returns-in_err-most : goal.returns-in_err-most
returns-in_err-most c =
    handed_on _ _ c.from_residual.ensures.1 ∙ refused_first _ _ _ _ _ _ _ c.in_err-most.ensures

pub returns-in_err-judge_ranges : goal.returns-in_err-judge_ranges
returns-in_err-judge_ranges c =
    handed_on _ _ c.from_residual-in_err-judge_ranges.ensures.1 ∙ refused_behind _ _ _ _ _ _ _ c.in_ok-most.ensures _
    c.in_err-judge_ranges.ensures

pub returns : goal.returns
returns c =
    none_refused _ _ _ _ _ _ _ c.in_ok-most.ensures
    c.in_ok-judge_ranges.ensures
