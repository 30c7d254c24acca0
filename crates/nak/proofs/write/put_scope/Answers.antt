-- `nak::write::put_scope` meets its contract: the code, start and end, one behind the other.
use native.Mathlib.Omega.{arith}
use Rattle.nak.proofs.Tests.{scope_passed}
use Rattle.nak.proofs.Storing.{scope_stored}
use Rattle.nak.proofs.write.put_scope.Goals as goal

pub returns : goal.returns
returns c =
    let pre = c.requires in
    let header-len = c.header_len-at in
    let size-width = c.size_width-width in
    let write-be = c.write_be in
    let write-be2 = c.write_be-2 in
    let write-be3 = c.write_be-3 in
    scope_stored _ _ _ _ _ _ _ _ _ pre.0 (scope_passed _ _ _ (omega arith) (omega arith) pre.1) header-len.ensures.0
    size-width.ensures.0 (omega arith) write-be.ensures write-be2.ensures write-be3.ensures
