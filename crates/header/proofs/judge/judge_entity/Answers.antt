-- `header::judge::judge_entity` meets its contract: the width's answer, or that of the value.
use mathlib.Core.Path.{sym, ap, ◌∙◌}
use Rattle.fields.specs.Answer.{told}
use Rattle.fields.specs.Refusal.{paper}
use Rattle.fields.proofs.Handed.{handed_on}
use Rattle.header.proofs.Judging.{refused_width, bad_id, good_id}
use Rattle.header.proofs.judge.judge_entity.Goals as goal

pub returns-in_err-judge_entity_width : goal.returns-in_err-judge_entity_width
returns-in_err-judge_entity_width c = handed_on _ _ c.from_residual.ensures.1 ∙ refused_width _ _ _ c.in_err-judge_entity_width.ensures

pub returns-then-not-fits : goal.returns-then-not-fits
returns-then-not-fits c =
    ap (λ r. told (paper r)) c.too_large.ensures
    ∙ bad_id _ c.in_ok-judge_entity_width.ensures _ _ c.new-field.ensures
    (sym c.fits.ensures ∙ c.if-not-fits.true)

pub returns : goal.returns
returns c =
    good_id _ c.in_ok-judge_entity_width.ensures _ _ c.new-field.ensures
    (sym c.fits.ensures ∙ c.if-not-fits.false)
