-- `header::PduHeader::judged` meets its contract: each test's answer is the judgement's.
use Rattle.std.specs.Prelude.{Err}
use mathlib.Core.Path.{sym, ap, ◌∙◌}
use mathlib.Core.List.{[], ◌∷◌}
use Rattle.fields.specs.declared.field.UnsignedByteField.{UnsignedByteField}
use Rattle.fields.specs.Width.{fits_field}
use Rattle.fields.specs.Answer.{told, answer_of}
use Rattle.fields.proofs.Handed.{handed_on}
use Rattle.fields.proofs.Judging.{passed}
use Rattle.header.specs.Judging.{width_tests}
use Rattle.header.proofs.Judging.{bad_widths, large_source, large_sequence, large_destination, all_right}
use Rattle.header.proofs.PduHeader.judged.Goals as goal

pub returns-in_err-judge_widths : goal.returns-in_err-judge_widths
returns-in_err-judge_widths c = handed_on _ _ c.from_residual.ensures.1 ∙ bad_widths _ _ c.in_err-judge_widths.ensures

pub returns-then-not-fits : goal.returns-then-not-fits
returns-then-not-fits c =
    let a = c.args in
    let w = (passed (width_tests a.self.width a.self.sequence.0.width) tt tt
    c.in_ok-judge_widths.ensures).0 in
    ap (λ r. answer_of (Err r)) c.too_large.ensures
    ∙ ap (λ (f : UnsignedByteField). told (14 ∷ f.value ∷ f.width ∷ [])) c.source_id-source.ensures
    ∙ large_source _ w (ap fits_field (sym c.source_id-source.ensures) ∙ sym c.fits.ensures ∙ c.if-not-fits.true)

pub returns-then-not-fits-2 : goal.returns-then-not-fits-2
returns-then-not-fits-2 c =
    let a = c.args in
    let w = (passed (width_tests a.self.width a.self.sequence.0.width) tt tt
    c.in_ok-judge_widths.ensures).0 in
    ap (λ r. answer_of (Err r)) c.too_large-then-not-fits-2.ensures
    ∙ large_sequence _ w (ap fits_field (sym c.source_id-source.ensures) ∙ sym c.fits.ensures ∙ c.if-not-fits.false)
    (sym c.fits-2.ensures ∙ c.if-not-fits-2.true)

pub returns-then-not-fits-3 : goal.returns-then-not-fits-3
returns-then-not-fits-3 c =
    let a = c.args in
    let w = (passed (width_tests a.self.width a.self.sequence.0.width) tt tt
    c.in_ok-judge_widths.ensures).0 in
    ap (λ r. answer_of (Err r)) c.too_large-then-not-fits-3.ensures
    ∙ ap (λ (f : UnsignedByteField). told (14 ∷ f.value ∷ f.width ∷ [])) c.dest_id-destination.ensures
    ∙ large_destination _ w (ap fits_field (sym c.source_id-source.ensures) ∙ sym c.fits.ensures ∙ c.if-not-fits.false)
    (sym c.fits-2.ensures ∙ c.if-not-fits-2.false)
    (ap fits_field (sym c.dest_id-destination.ensures) ∙ sym c.fits-3.ensures ∙ c.if-not-fits-3.true)

pub returns : goal.returns
returns c =
    let a = c.args in
    let w = (passed (width_tests a.self.width a.self.sequence.0.width) tt tt
    c.in_ok-judge_widths.ensures).0 in
    all_right _ w (ap fits_field (sym c.source_id-source.ensures) ∙ sym c.fits.ensures ∙ c.if-not-fits.false)
    (sym c.fits-2.ensures ∙ c.if-not-fits-2.false)
    (ap fits_field (sym c.dest_id-destination.ensures) ∙ sym c.fits-3.ensures ∙ c.if-not-fits-3.false)
