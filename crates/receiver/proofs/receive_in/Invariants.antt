-- `receiver::receive_in` meets its contract. The loop's invariant: a call with what is left of the fragment, from the window as it is, gives what the whole call gives, and its short readings with those that were counted are the whole call's.
-- Its measure is how many short readings are left. They are at most four, so the count fits.
use Prim.Native.Nat.{◌+◌, ◌≤◌}
use mathlib.Core.Path.{◌≡◌}
use lib.ListN.{length, drop}
use Rattle.receiver.specs.Receiving.{window_length, state_of, call}
use Rattle.receiver.specs.Within.{short_readings}
use Rattle.receiver.proofs.Calls.{more_by}
use Rattle.receiver.proofs.receive_in.Given as goal

abbrev pub invariant-loop-nak : goal.invariant-loop-nak
invariant-loop-nak l =
    (l.taken ≤ length l.fragment) × (length l.window ≡ window_length) × (more_by l.taken (call (state_of l.window l.at) (drop l.taken l.fragment)) ≡ call (state_of l.initial.window l.filled) l.fragment)
    × (l.shorts + short_readings (state_of l.window l.at) (drop l.taken l.fragment) ≡ short_readings (state_of l.initial.window l.filled) l.fragment)

abbrev pub decreases-loop-nak : goal.decreases-loop-nak
decreases-loop-nak l = short_readings (state_of l.window l.at) (drop l.taken l.fragment)
