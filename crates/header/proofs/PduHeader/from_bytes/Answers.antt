-- `header::PduHeader::from_bytes` meets its contract: what was measured is what is read.
use mathlib.Core.Path.{sym, ap, ◌∙◌}
use lib.Seq.{length-take-le}
use Rattle.fields.specs.Answer.{accepted}
use Rattle.fields.proofs.Handed.{handed_on}
use Rattle.header.proofs.PduHeader.from_bytes.Goals as goal

pub slice_bounds-header_in-end : goal.slice_bounds-header_in-end
slice_bounds-header_in-end c = sym (length-take-le _ _ c.in_ok-len.ensures.0)

pub header_in-requires : goal.header_in-requires
header_in-requires c = c.in_ok-len.ensures.1

pub returns-in_err-len : goal.returns-in_err-len
returns-in_err-len c = handed_on _ _ c.from_residual.ensures.1 ∙ c.in_err-len.ensures

pub returns : goal.returns
returns c = ap accepted c.header_in.ensures ∙ c.in_ok-len.ensures.2
