-- `header::PduHeader::new_generic` meets its contract: what is refused for its widths, or the record's judgement.
use mathlib.Core.Path.{◌∙◌}
use Rattle.fields.proofs.Handed.{handed_on}
use Rattle.header.proofs.Judging.{refused_building, joined_building}
use Rattle.header.proofs.PduHeader.new_generic.Goals as goal

pub returns-in_err-header : goal.returns-in_err-header
returns-in_err-header c = handed_on _ _ c.from_residual.ensures.1 ∙ refused_building _ _ _ _ c.in_err-header.ensures

pub returns : goal.returns
returns c =
    c.judged.ensures ∙ joined_building _ _ _ _ c.in_ok-header.ensures
