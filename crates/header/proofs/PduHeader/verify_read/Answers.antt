-- `header::PduHeader::verify_read` meets its contract: each exit's answer is the stages'.
use mathlib.Core.Path.{sym, ap, ◌∙◌}
use native.Mathlib.Omega.{arith}
use lib.Seq.{length-take-le}
use Rattle.fields.specs.Answer.{answer_of}
use Rattle.header.proofs.Verifying.{at_least, short_p, no_checksum, bad_checksum, good_checksum}
use Rattle.header.proofs.PduHeader.verify_read.Goals as goal

pub returns-then-buf-len : goal.returns-then-buf-len
returns-then-buf-len c = ap answer_of c.short.ensures ∙ short_p _ _ _ c.pdu_len-len.ensures.0 c.if-buf-len.true

pub returns-in-NoCrc : goal.returns-in-NoCrc
returns-in-NoCrc c = no_checksum _ _ _ c.pdu_len-len.ensures.0 c.if-buf-len.false c.in-NoCrc.is

pub slice_bounds-pdu-end : goal.slice_bounds-pdu-end
slice_bounds-pdu-end c =
    let pdu-len = c.pdu_len-len in
    let a = c.args in
    sym (length-take-le pdu-len.result a.buf.now (omega arith))

pub overflow_sub-stop : goal.overflow_sub-stop
overflow_sub-stop c = omega (arith, at_least _ _ c.pdu_len-len.ensures.0)

pub returns-then-checksum-ne0 : goal.returns-then-checksum-ne0
returns-then-checksum-ne0 c =
    let pdu-len = c.pdu_len-len in
    let checksum = c.checksum in
    bad_checksum _ _ _ pdu-len.ensures.0 c.if-buf-len.false c.in_default.is _ checksum.ensures _ c.if-checksum-ne0.true
    c.read_be.ensures.0

pub returns : goal.returns
returns c =
    let pdu-len = c.pdu_len-len in
    good_checksum _ _ _ pdu-len.ensures.0 c.if-buf-len.false c.in_default.is _ c.checksum.ensures c.if-checksum-ne0.false
