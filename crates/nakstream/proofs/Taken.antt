-- The bytes that a call took are bytes of what was offered. Assumes nothing.
use Prim.Native.Nat.{ℕ, ◌≤◌}
use mathlib.Core.Path.{◌≡◌, sym, ap, subst}
use mathlib.Core.List.{List}
use lib.ListN.{length}
use Rattle.receiver.specs.declared.Receiver.{Receiver}
use Rattle.receiver.specs.declared.Received.{Received}
use Rattle.receiver.specs.Receiving.{Call, call, call_of}
use Rattle.receiver.proofs.Calls.{taken_inside}

pub stays_inside : (got : Received) (w : List ℕ) (r : Receiver) (f : List ℕ) → call_of got w ≡ call r f → got.taken ≤ length f
stays_inside got w r f e = subst (λ (n : ℕ). n ≤ length f) (sym (ap (λ (c : Call). c.taken) e)) (taken_inside r f)
