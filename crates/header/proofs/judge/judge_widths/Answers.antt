-- `header::judge::judge_widths` meets its contract: the first width that is none is the answer.
use mathlib.Core.Path.{sym, ◌∙◌}
use Rattle.fields.proofs.Handed.{handed_on}
use Rattle.header.proofs.Judging.{refused_entity, bad_sequence, both_widths}
use Rattle.header.proofs.judge.judge_widths.Goals as goal

pub returns-in_err-judge_entity_width : goal.returns-in_err-judge_entity_width
returns-in_err-judge_entity_width c = handed_on _ _ c.from_residual.ensures.1 ∙ refused_entity _ _ _ c.in_err-judge_entity_width.ensures

pub returns-then-not-is_width : goal.returns-then-not-is_width
returns-then-not-is_width c =
    bad_sequence _ c.in_ok-judge_entity_width.ensures _
    (sym c.is_width.ensures ∙ c.if-not-is_width.true)

pub returns : goal.returns
returns c =
    both_widths _ c.in_ok-judge_entity_width.ensures _
    (sym c.is_width.ensures ∙ c.if-not-is_width.false)
