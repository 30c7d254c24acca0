-- `ranges::owed::resent` meets its contract: 18, or what is owed without the range.
use mathlib.Core.Path.{◌∙◌}
use native.Mathlib.Omega.{arith}
use Rattle.fields.proofs.BigEndian.{at_number}
use Rattle.ranges.proofs.Entering.{resent_wrong, resent_owes}
use Rattle.ranges.proofs.owed.resent.Goals as goal

pub returns-then-to-from : goal.returns-then-to-from
returns-then-to-from c =
    let read-be = c.read_be-from in
    let a = c.args in
    let pre = c.requires in
    resent_wrong _ _ _ _ _ (read-be.ensures.0 ∙ at_number a.contents.now 0 8 (omega arith) (omega (arith, pre.1)))
    (c.read_be-to.ensures.0 ∙ at_number a.contents.now 8 8 (omega arith) (omega (arith, pre.1))) c.if-to-from.true

pub returns : goal.returns
returns c =
    let read-be = c.read_be-from in
    let a = c.args in
    let pre = c.requires in
    let read-be2 = c.read_be-to in
    let first-in = c.first_in-first in
    resent_owes _ _ _ _ _ (read-be.ensures.0 ∙ at_number a.contents.now 0 8 (omega arith) (omega (arith, pre.1)))
    (read-be2.ensures.0 ∙ at_number a.contents.now 8 8 (omega arith) (omega (arith, pre.1))) c.if-to-from.false _ first-in.ensures _ _
    c.owe.ensures
