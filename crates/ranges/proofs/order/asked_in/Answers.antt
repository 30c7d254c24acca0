-- `ranges::order::asked_in` meets its contract: the first pair asks for metadata or is one of the others, whose order says the rest.
use mathlib.Core.Path.{sym, ◌∙◌}
use Rattle.ranges.proofs.Ordering.{metadata_first, Others, others_behind, others_all, others_disorder}
use Rattle.ranges.proofs.order.asked_in.Goals as goal
use Rattle.ranges.proofs.order.asked_in.Goals.{then-metadata, else-metadata}

pub returns-in-Some : goal.returns-in-Some
returns-in-Some c =
    let m = c.eq-metadata.ensures ∙ metadata_first _ _ c.next.result c.next.ensures.steps in
    let others : Others c.args.pairs c.next.new.self c.if-metadata.number.0 c.if-metadata.number.1 = elim c.if-metadata.branch [
      | then-metadata w ↦ rw w.number-is (others_behind _ _ c.next.result c.next.ensures.steps (sym m ∙ w.if-metadata.true))
      | else-metadata w ↦ rw w.number-is (others_all _ c.next.new.self (sym m ∙ w.if-metadata.false))
    ] in
    rw (others_disorder c.args.pairs c.next.new.self _ _ others) at c.in-Some.ensures

pub returns-in-None : goal.returns-in-None
returns-in-None c =
    let m = c.eq-metadata.ensures ∙ metadata_first _ _ c.next.result c.next.ensures.steps in
    let others : Others c.args.pairs c.next.new.self c.if-metadata.number.0 c.if-metadata.number.1 = elim c.if-metadata.branch [
      | then-metadata w ↦ rw w.number-is (others_behind _ _ c.next.result c.next.ensures.steps (sym m ∙ w.if-metadata.true))
      | else-metadata w ↦ rw w.number-is (others_all _ c.next.new.self (sym m ∙ w.if-metadata.false))
    ] in
    (m, others.0, rw (others_disorder c.args.pairs c.next.new.self _ _ others) at c.in-None.ensures)
