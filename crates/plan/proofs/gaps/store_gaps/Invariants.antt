-- `plan::gaps::store_gaps` meets its contract. The loop's invariant: storing the gaps that are left gives what is to be stored.
use Rattle.std.proofs.Common.{◌≡◌, ◌≤◌, ◌+◌, ◌*◌, length}
use lib.Seq.{sets}
use Rattle.std.specs.Iterator.Adapters.{enumerate_source, enumerate_count}
use Rattle.plan.specs.declared.gaps.Gaps.{Gaps}
use Rattle.plan.specs.Plans.{pair_numbers}
use Rattle.plan.specs.Gaps.{pairs, gaps}
use Rattle.plan.proofs.gaps.store_gaps.Given as goal

abbrev pub invariant-loop-k : goal.invariant-loop-k
invariant-loop-k l =
    let s : Gaps = enumerate_source l.k-iterator in
    let left = gaps s.at s.stop (pairs s.received.now) in
    let at = 2 * enumerate_count l.k-iterator in
    (length l.out ≡ length l.initial.out)
    × (at + 2 * length left ≤ length l.out)
    × (sets l.out at (pair_numbers left) ≡ sets l.initial.out 0 (pair_numbers (gaps l.fn.missing.at l.fn.missing.stop (pairs l.fn.missing.received.now))))
    × (goal.iterator-loop-k).can_next l.k-iterator
    × (goal.iterator-loop-k).is_finite l.k-iterator
