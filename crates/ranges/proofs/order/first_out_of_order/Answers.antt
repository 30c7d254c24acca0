-- `ranges::order::first_out_of_order` meets its contract: the number of the first pair out of order among those that are left is that of all.
use Prim.Native.Nat.{◌+◌}
use mathlib.Core.Path.{◌≡◌, sym, ap, ◌∙◌}
use native.Mathlib.Omega.{arith}
use Rattle.ranges.specs.Order.{out_of_order}
use Rattle.ranges.specs.Sources.{pairs_in}
use Rattle.ranges.proofs.Ordering.{order_wrong}
use Rattle.ranges.proofs.order.first_out_of_order.Goals as goal

pub returns-then-start-last : goal.returns-then-start-last
returns-then-start-last c =
    let a = c.args in
    let steps = c.in-Some.ensures.steps in
    let wrong = order_wrong _ _ _ _ _ _ steps.0 c.then-start-last.either in
    let k : a.number + c.in-Some.i ≡ out_of_order a.number 0 (pairs_in a.pairs) = ap (◌+◌ a.number) steps.1 ∙ sym wrong ∙ c.loop-i.invariant.same in
    (k, λ z. absurd (let n = c.requires.0 in let b : ⊥ = omega arith in b))
