-- `nak::count::calculate_max_segment_requests` meets its contract: the record's refusal, 15, or the smaller of both counts.
use mathlib.Core.Path.{ap, ◌∙◌}
use Rattle.fields.specs.Answer.{accepted}
use Rattle.fields.proofs.Handed.{handed_on}
use Rattle.header.proofs.Pdus.{passed_directive}
use Rattle.nak.proofs.Counting.{refused_count, too_small, counted}
use Rattle.nak.proofs.count.calculate_max_segment_requests.Goals as goal

pub returns-in_err-judged_directive : goal.returns-in_err-judged_directive
returns-in_err-judged_directive c = handed_on _ _ c.from_residual.ensures.1 ∙ refused_count _ _ _ c.in_err-judged_directive.ensures

pub returns-then-size-least : goal.returns-then-size-least
returns-then-size-least c = too_small _ _ (passed_directive _ c.in_ok-judged_directive.ensures) _ c.least_packet-least.ensures.0 c.if-size-least.true

pub returns : goal.returns
returns c =
    ap accepted c.min.ensures
    ∙ counted _ _ (passed_directive _ c.in_ok-judged_directive.ensures) _ c.least_packet-least.ensures.0 _ _ (rw c.size_width.ensures.0)
    c.most_pairs-most.ensures c.if-size-least.false
