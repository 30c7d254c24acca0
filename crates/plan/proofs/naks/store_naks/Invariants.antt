-- `plan::naks::store_naks` meets its contract. The loop's invariant: storing the NAKs that are left gives what is to be stored.
use mathlib.Core.Path.{◌≡◌}
use Prim.Native.Nat.{◌-◌, ◌*◌, ◌≤◌, ◌<◌}
use lib.ListN.{length}
use lib.Seq.{sets}
use Rattle.plan.specs.Plans.{nak_numbers}
use Rattle.plan.specs.Planning.{dealt}
use Rattle.plan.specs.Gaps.{pairs}
use Rattle.plan.proofs.naks.store_naks.Given as goal

abbrev pub invariant-loop-i : goal.invariant-loop-i
invariant-loop-i l =
    let n = l.naks - l.i in
    (length l.out ≡ length l.initial.out)
    × ((n - 1) * l.most ≤ length l.rest)
    × (1 < n → 0 < l.most)
    × (sets l.out (3 * l.i) (nak_numbers (dealt n l.most (length l.rest) l.at l.end (pairs l.rest))) ≡ sets l.initial.out 0 (nak_numbers (dealt l.naks l.most (length l.requests) l.start l.end (pairs l.requests))))
