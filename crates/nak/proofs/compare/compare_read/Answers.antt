-- `nak::compare::compare_read` meets its contract: the record's refusal, the NAK's own, or header and scope and the list decide.
use mathlib.Core.Path.{refl, ap, ◌∙◌}
use Rattle.fields.specs.Answer.{accepted}
use Rattle.fields.proofs.Handed.{handed_on}
use Rattle.header.proofs.Pdus.{passed_directive}
use Rattle.nak.proofs.Comparing.{refused_record, refused_own, judged_filled, refused_judging, not_alike, alike}
use Rattle.nak.proofs.compare.compare_read.Goals as goal

pub returns-in_err-judged_directive : goal.returns-in_err-judged_directive
returns-in_err-judged_directive c = handed_on _ _ c.from_residual.ensures.1 ∙ refused_judging _ _ _ _ _ _ _ _ (refused_record _ _ _ _ _ _ c.in_err-judged_directive.ensures)

pub returns-in_err-d : goal.returns-in_err-d
returns-in_err-d c =
    handed_on _ _ c.from_residual-in_err-d.ensures.1
    ∙ refused_judging _ _ _ _ _ _ _ _ (refused_own _ _ _ _ _ (passed_directive _ c.in_ok-judged_directive.ensures) _ refl _ c.in_err-d.ensures)

pub returns-then-same_nak : goal.returns-then-same_nak
returns-then-same_nak c =
    alike _ _ _ _ _ _ _ _
    (judged_filled _ _ _ _ _ (passed_directive _ c.in_ok-judged_directive.ensures) _ refl _ _ _ c.in_ok-d.ensures c.towards_sender.ensures c.with_datafield_len-handed.ensures)
    _ _ refl c.same_nak.ensures c.if-same_nak.true

pub returns-else-same_nak : goal.returns-else-same_nak
returns-else-same_nak c =
    ap accepted c.if-same_nak.false
    ∙ not_alike _ _ _ _ _ _ _ _
    (judged_filled _ _ _ _ _ (passed_directive _ c.in_ok-judged_directive.ensures) _ refl _ _ _ c.in_ok-d.ensures c.towards_sender.ensures c.with_datafield_len-handed.ensures)
    _ _ refl c.same_nak.ensures c.if-same_nak.false
