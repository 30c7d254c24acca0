-- `receiver::store` meets its contract. The loop's invariant: storing the bytes that are left gives what is to be stored.
use native.Mathlib.Nat.{add-zero}
use native.Mathlib.Omega.{arith}
use borrow.Author.Rules.{rules}
use Rattle.fields.proofs.Parts.{byte_turn, bytes_done}
use Rattle.receiver.proofs.store.Goals as goal

pub loop-i-init : goal.loop-i-init
loop-i-init c = rw add-zero

pub loop-i-preserved : goal.loop-i-preserved
loop-i-preserved c =
    let l = c.loop-i in
    byte_turn _ _ _ _ l.i (search rules) l.invariant

pub returns : goal.returns
returns c = bytes_done _ _ _ c.loop-i.i _ (omega arith) c.loop-i.invariant
