-- `nak::compare::compare_no_segment_requests` meets its contract: the reader's refusal, or what was read is compared.
use mathlib.Core.Path.{refl, ◌∙◌}
use mathlib.Core.List.{[]}
use Rattle.fields.proofs.Handed.{handed_on}
use Rattle.nak.proofs.Comparing.{refused_reading, nothing_decides}
use Rattle.nak.proofs.compare.compare_no_segment_requests.Goals as goal

pub returns-in_err-nak : goal.returns-in_err-nak
returns-in_err-nak c = handed_on _ _ c.from_residual.ensures.1 ∙ refused_reading _ _ _ _ [] _ _ c.in_err-nak.ensures

pub returns : goal.returns
returns c = c.compare_read.ensures ∙ nothing_decides _ _ _ _ [] _ _ c.in_ok-nak.ensures _ _ c.request_area.ensures c.is_empty-held.ensures refl
