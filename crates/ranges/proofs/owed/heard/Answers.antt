-- `ranges::owed::heard` meets its contract: the reader's refusal, 18, 19, or what is owed with the pairs.
use mathlib.Core.Path.{◌∙◌}
use native.Mathlib.Omega.{arith}
use Rattle.fields.proofs.Handed.{handed_on}
use Rattle.ranges.proofs.Sources.{requests_start, requests_few}
use Rattle.ranges.proofs.Differing.{others_rise}
use Rattle.ranges.proofs.Entering.{heard_refused, heard_wrong, heard_differs, heard_owes}
use Rattle.ranges.proofs.owed.heard.Goals as goal

pub asked_in-requires : goal.asked_in-requires
asked_in-requires c = omega (arith, requests_few _ c.args.contents.now _ (requests_start _ _ c.segment_request_iter.result c.segment_request_iter.ensures))

pub returns-in_default : goal.returns-in_default
returns-in_default c =
    heard_wrong _ _ _ _ c.in_ok-nak.ensures _ (requests_start _ _ c.segment_request_iter.result c.segment_request_iter.ensures) _
    c.in_default.ensures

pub returns-then-differs : goal.returns-then-differs
returns-then-differs c =
    heard_differs _ _ _ _ c.in_ok-nak.ensures _ (requests_start _ _ c.segment_request_iter.result c.segment_request_iter.ensures) _
    c.in-Ok.ensures _ _ c.first_in-first.ensures c.differs.ensures c.if-differs.true

pub owe-requires : goal.owe-requires
owe-requires c = (c.requires, others_rise _ _ c.in-Ok.ensures)

pub returns-in_err-nak : goal.returns-in_err-nak
returns-in_err-nak c =
    let both = heard_refused _ _ _ _ c.in_err-nak.ensures in
    (handed_on _ _ c.from_residual.ensures.1 ∙ both.0, both.1)

pub returns : goal.returns
returns c =
    heard_owes _ _ _ _ c.in_ok-nak.ensures _ (requests_start _ _ c.segment_request_iter.result c.segment_request_iter.ensures) _
    c.in-Ok.ensures _ _ c.first_in-first.ensures c.differs.ensures c.if-differs.false _ c.after.ensures _ _ c.owe.ensures
