-- `header::directive::DirectivePdu::up_to_code` meets its contract: the header's refusal, the verification's, or both parts.
use mathlib.Core.Path.{sym, ap, ◌∙◌}
use lib.Seq.{length-take-le}
use Rattle.fields.specs.Answer.{accepted}
use Rattle.fields.proofs.Handed.{handed_on}
use Rattle.header.proofs.Directives.{no_header, not_verified, directive_read}
use Rattle.header.proofs.directive.DirectivePdu.up_to_code.Goals as goal

pub slice_bounds-header_in-end : goal.slice_bounds-header_in-end
slice_bounds-header_in-end c =
    let m = c.in_ok-len.ensures in
    sym (length-take-le _ _ m.0)

pub header_in-header-requires : goal.header_in-header-requires
header_in-header-requires c = let m = c.in_ok-len.ensures in m.1

pub returns-in_err-len : goal.returns-in_err-len
returns-in_err-len c = handed_on _ _ c.from_residual.ensures.1 ∙ no_header _ _ c.in_err-len.ensures

pub returns-in_err-stop : goal.returns-in_err-stop
returns-in_err-stop c =
    let m = c.in_ok-len.ensures in
    handed_on _ _ c.from_residual-in_err-stop.ensures.1 ∙ not_verified _ _ (ap accepted c.header_in-header.ensures ∙ m.2) _ c.in_err-stop.ensures

pub returns : goal.returns
returns c =
    let m = c.in_ok-len.ensures in
    directive_read _ _ (ap accepted c.header_in-header.ensures ∙ m.2) _
    c.in_ok-stop.ensures
