-- `receiver::receive_in` meets its contract. The loop's invariant: a call with what is left of the fragment, from the window as it is, gives what the whole call gives, and its short readings with those that were counted are the whole call's.
-- Its measure is how many short readings are left. They are at most four, so the count fits.
use mathlib.Core.Path.{refl, sym, ap, ◌∙◌}
use native.Mathlib.Nat.{zero-add}
use native.Mathlib.Omega.{arith}
use lib.ListN.{length, length-take, length-drop}
use lib.Seq.{length-sets}
use Rattle.receiver.specs.Receiving.{state_of}
use Rattle.receiver.specs.Within.{status_answer}
use Rattle.receiver.proofs.Calls.{more_none, waits_for, gives_nak, gives_refusal, gives_more, turn}
use Rattle.receiver.proofs.Shorts.{at_end, all_nak, all_refused, all_more, turn_counts, turn_less}
use Rattle.receiver.proofs.Waits.{few_shorts}
use borrow.Author.Rules.{rules}
use Rattle.receiver.proofs.receive_in.Goals as goal

pub loop-nak-init : goal.loop-nak-init
loop-nak-init c = (search rules, c.requires, more_none _, zero-add _)

pub returns-in-Whole : goal.returns-in-Whole
returns-in-Whole c =
    let l = c.loop-nak in
    let s = ap status_answer (sym c.in-Whole.is) ∙ c.status_of-said.ensures in
    let both = at_end _ _ _ _ _ c.ended.ensures (gives_nak _ _ _ _ _ l.invariant.2 _ s) (all_nak _ _ _ l.taken _ _ l.invariant.3 _ s) in
    record { called = both.0; counted = both.1 }

pub returns-in-Bad : goal.returns-in-Bad
returns-in-Bad c =
    let l = c.loop-nak in
    let s = ap status_answer (sym c.in-Bad.is) ∙ c.status_of-said.ensures in
    let both = at_end _ _ _ _ _ c.ended-in-Bad.ensures (gives_refusal _ _ _ _ _ l.invariant.2 _ s) (all_refused _ _ _ l.taken _ _ l.invariant.3 _ s) in
    record { called = both.0; counted = both.1 }

pub overflow_add-shorts : goal.overflow_add-shorts
overflow_add-shorts c =
    let pre = c.requires in
    let l = c.loop-nak in
    let a = c.args in
    omega (arith, l.invariant.3, few_shorts (state_of a.window.now a.filled) a.fragment.now pre)

pub overflow_sub-wanted : goal.overflow_sub-wanted
overflow_sub-wanted c =
    let status-of = c.status_of-said in
    let l = c.loop-nak in
    let v = waits_for l.window l.at c.in-Wants.found c.in-Wants.need l.invariant.1 (ap status_answer (sym c.in-Wants.is) ∙ status-of.ensures) in
    omega arith

pub overflow_add-there : goal.overflow_add-there
overflow_add-there c =
    let status-of = c.status_of-said in
    let l = c.loop-nak in
    let v = waits_for l.window l.at c.in-Wants.found c.in-Wants.need l.invariant.1 (ap status_answer (sym c.in-Wants.is) ∙ status-of.ensures) in
    omega arith

pub store-requires : goal.store-requires
store-requires c =
    let status-of = c.status_of-said in
    let l = c.loop-nak in
    let v = waits_for l.window l.at c.in-Wants.found c.in-Wants.need l.invariant.1 (ap status_answer (sym c.in-Wants.is) ∙ status-of.ensures) in
    simp (length-take, length-drop) (omega arith)

pub shape_of-window-then-left-wanted : goal.shape_of-window-then-left-wanted
shape_of-window-then-left-wanted c = ap length c.store.ensures ∙ simp length-sets (search rules)

pub returns-then-left-wanted : goal.returns-then-left-wanted
returns-then-left-wanted c =
    let status-of = c.status_of-said in
    let store = c.store in
    let l = c.loop-nak in
    let s = ap status_answer (sym c.in-Wants.is) ∙ status-of.ensures in
    let v = waits_for l.window l.at c.in-Wants.found c.in-Wants.need l.invariant.1 s in
    let both = at_end _ _ _ _ _ c.ended-then-left-wanted.ensures (gives_more _ _ _ _ _ l.invariant.2 l.invariant.1 l.invariant.0 _ _ s _ c.if-left-wanted.true store.ensures)
    (all_more _ _ _ l.taken _ _ l.invariant.3 _ _ s v.below c.if-left-wanted.true) in
    record { called = both.0; counted = both.1 }

pub store-requires-in-Wants : goal.store-requires-in-Wants
store-requires-in-Wants c =
    let status-of = c.status_of-said in
    let l = c.loop-nak in
    let v = waits_for l.window l.at c.in-Wants.found c.in-Wants.need l.invariant.1 (ap status_answer (sym c.in-Wants.is) ∙ status-of.ensures) in
    simp (length-take, length-drop) (omega arith)

pub loop-nak-smaller : goal.loop-nak-smaller
loop-nak-smaller c =
    let status-of = c.status_of-said in
    let store2 = c.store-in-Wants in
    let l = c.loop-nak in
    let s = ap status_answer (sym c.in-Wants.is) ∙ status-of.ensures in
    let v = waits_for l.window l.at c.in-Wants.found c.in-Wants.need l.invariant.1 s in
    turn_less _ _ _ l.taken _ _ l.invariant.3 _ _ s _ _ refl v.below c.if-left-wanted.false store2.ensures

pub loop-nak-preserved : goal.loop-nak-preserved
loop-nak-preserved c =
    let l = c.loop-nak in
    let s = ap status_answer (sym c.in-Wants.is) ∙ c.status_of-said.ensures in
    let v = waits_for l.window l.at c.in-Wants.found c.in-Wants.need l.invariant.1 s in
    let stored = c.store-in-Wants.ensures in (
      search rules,
      ap length stored ∙ simp length-sets l.invariant.1,
      turn _ _ _ _ _ l.invariant.2 l.invariant.1 l.invariant.0 _ _ s _ _ refl v.below c.if-left-wanted.false stored,
      turn_counts _ _ _ l.taken _ _ l.invariant.3 _ _ s _ _ refl v.below c.if-left-wanted.false stored,
    )
