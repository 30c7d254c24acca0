-- `metadata::write::put_fixed` meets its contract: two bytes and a number, each behind the one before.
use native.Mathlib.Omega.{arith}
use lib.ListN.{length-set}
use Rattle.metadata.proofs.Data.{fixed_size}
use Rattle.metadata.proofs.write.put_fixed.Goals as goal

pub bounds-buf-at-2 : goal.bounds-buf-at-2
bounds-buf-at-2 c =
    let pre = c.requires in
    let a = c.args in
    simp length-set (omega (arith, pre.0, fixed_size a.params))
