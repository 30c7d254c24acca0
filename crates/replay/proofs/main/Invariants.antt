-- `replay::main` is safe: no more records differ than were replayed.
use Prim.Native.Nat.{◌≤◌}
use Rattle.replay.proofs.main.Given as goal

abbrev pub invariant-loop-before : goal.invariant-loop-before
invariant-loop-before l = l.differing ≤ l.before
