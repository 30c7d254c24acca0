-- `ranges::merge::merge` meets its contract: storing and counting what is left from here gives all, at each place where a side changes.
use mathlib.Core.Path.{ap, ◌∙◌}
use native.Mathlib.Omega.{arith}
use lib.ListN.{length}
use Rattle.ranges.proofs.Laying.{length_closed_into}
use Rattle.ranges.proofs.Merging.{walk_start, to_ahead, to_inside, walk_turn, walk_end}
use Rattle.ranges.proofs.merge.merge.Goals as goal

pub loop-at-init : goal.loop-at-init
loop-at-init c =
    let pre = c.requires in
    walk_start _ _ _ _ _ _ _ pre.0 pre.1 c.new-first.ensures c.new-second.ensures

pub turned-open-requires : goal.turned-open-requires
turned-open-requires c =
    let l = c.loop-at in
    omega (arith, l.invariant.few, l.invariant.inside)

pub loop-at-smaller : goal.loop-at-smaller
loop-at-smaller c =
    let l = c.loop-at in
    let loop-test = c.loop-at-test in
    let edge = c.edge in
    let edge2 = c.edge-in-loop-at in
    let least = c.min-to in
    omega
    (arith, to_ahead _ _ _ _ _ _ _ _ _ _ l.invariant loop-test.true _ _ _ edge.ensures.0 edge.ensures.1 edge2.ensures.0 least.ensures, to_inside _ _ _ _ _ _ _ _ _ _ l.invariant loop-test.true _ _ _ edge.ensures.0 edge.ensures.1 edge2.ensures.0 least.ensures)

pub loop-at-preserved : goal.loop-at-preserved
loop-at-preserved c =
    let l = c.loop-at in
    let edge = c.edge in
    let edge2 = c.edge-in-loop-at in
    let turned = c.turned-open in
    walk_turn _ _ _ _ _ _ _ _ _ _ l.invariant c.loop-at-test.true _ _ _ edge.ensures.0 edge.ensures.1 edge2.ensures.0
    c.min-to.ensures _ _ _ _ _ _ _ c.label_of-label.ensures c.asks.ensures c.asks-in-loop-at.ensures turned.ensures.0
    turned.ensures.1 c.pass.ensures c.pass-in-loop-at.ensures

pub close-requires : goal.close-requires
close-requires c = omega (arith, c.loop-at.invariant.few, c.loop-at.invariant.inside)

pub shape_of-out : goal.shape_of-out
shape_of-out c =
    let close = c.close in
    let l = c.loop-at in
    ap length close.ensures.1 ∙ length_closed_into _ _ _ _ ∙ l.invariant.kept

pub returns : goal.returns
returns c =
    let l = c.loop-at in
    let loop-test = c.loop-at-test in
    let close = c.close in
    let both = walk_end _ _ _ _ _ _ _ _ _ _ l.invariant loop-test.false _ _ close.ensures.0 close.ensures.1 in
    record { answered = both.0; stored = both.1 }
