-- `nakdiff::read_full` is safe and ends: what is there lies in the buffer, and grows.
use Rattle.std.proofs.Common.{◌-◌, ◌≤◌, length}
use Rattle.nakdiff.proofs.read_full.Given as goal

abbrev pub invariant-loop-there : goal.invariant-loop-there
invariant-loop-there g l = l.there ≤ length l.bytes

abbrev pub decreases-loop-there : goal.decreases-loop-there
decreases-loop-there g l = length l.bytes - l.there
