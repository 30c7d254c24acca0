-- `header::write::put_header` meets its contract: six fields, each behind the one before.
use native.Mathlib.Omega.{arith}
use Rattle.header.proofs.Writing.{fields_put}
use Rattle.header.proofs.write.put_header.Goals as goal

pub returns : goal.returns
returns c =
    let pre = c.requires in
    let struct-known3 = c.struct_known-3-1 in
    let first_byte = c.first_byte-first in
    let fourth-byte = c.fourth_byte-fourth in
    let write-be = c.write_be in
    let write-be2 = c.write_be-2 in
    let write-be3 = c.write_be-3 in
    let put-identifier = c.put_identifier in
    let put-identifier2 = c.put_identifier-2 in
    let put-identifier3 = c.put_identifier-3 in
    fields_put _ _ _ _ _ _ _ _ _ _ pre.0 pre.1 (let k = struct-known3.given in omega arith) (let k = first_byte in omega arith)
    (let k = fourth-byte in omega arith) first_byte.ensures fourth-byte.ensures
    write-be.ensures write-be2.ensures write-be3.ensures put-identifier.ensures put-identifier2.ensures put-identifier3.ensures
