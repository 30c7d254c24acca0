-- `ranges::owed::rise` meets its contract. The loop's invariant: testing the ranges that are left gives the answer.
use Rattle.ranges.proofs.Memory.{rise_before, rise_empty, rise_on, rise_all}
use Rattle.ranges.proofs.owed.rise.Goals as goal

pub returns-then-from-last : goal.returns-then-from-last
returns-then-from-last c =
    let pre = c.requires in
    let loop-test = c.loop-i-test in
    let l = c.loop-i in
    rise_before _ _ _ _ pre.0 loop-test.true _ c.if-from-last.true l.invariant

pub returns-then-to-from : goal.returns-then-to-from
returns-then-to-from c =
    let pre = c.requires in
    let loop-test = c.loop-i-test in
    let l = c.loop-i in
    rise_empty _ _ _ _ pre.0 loop-test.true _ c.if-to-from.true l.invariant

pub loop-i-preserved : goal.loop-i-preserved
loop-i-preserved c =
    let pre = c.requires in
    let loop-test = c.loop-i-test in
    let l = c.loop-i in
    rise_on _ _ _ _ pre.0 loop-test.true _ c.if-from-last.false c.if-to-from.false l.invariant

pub returns : goal.returns
returns c =
    let a = c.args in
    let pre = c.requires in
    rise_all a.state.now a.count _ _ _ pre.0 c.loop-i-test.false c.loop-i.invariant
