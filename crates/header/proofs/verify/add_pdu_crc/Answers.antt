-- `header::verify::add_pdu_crc` meets its contract: nothing without the flag or the room, else the checksum's two bytes.
use mathlib.Core.Path.{sym}
use native.Mathlib.Omega.{arith}
use lib.Seq.{length-take-le}
use Rattle.header.proofs.Verifying.{no_crc, crc_nowhere, with_crc}
use Rattle.header.proofs.verify.add_pdu_crc.Goals as goal

pub returns-in-NoCrc : goal.returns-in-NoCrc
returns-in-NoCrc c = no_crc _ _ _ c.in-NoCrc.is

pub returns-then-buf-n : goal.returns-then-buf-n
returns-then-buf-n c = crc_nowhere _ _ _ c.in_default.is c.if-buf-n.true

pub slice_bounds-checksum-end-2 : goal.slice_bounds-checksum-end-2
slice_bounds-checksum-end-2 c =
    let a = c.args in
    sym (length-take-le a.n a.buf.now (omega arith))

pub returns : goal.returns
returns c =
    let checksum = c.checksum-sum in
    let write-be = c.write_be in
    with_crc _ _ _ _ _ c.in_default.is checksum.ensures write-be.ensures
