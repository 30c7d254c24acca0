-- `nak::write::length_of` meets its contract: so many pairs fit 16 bits.
use native.Mathlib.Omega.{arith}
use Rattle.nak.proofs.Tests.{pairs_bytes, data_is}
use Rattle.nak.proofs.write.length_of.Goals as goal

pub overflow_mul-wide : goal.overflow_mul-wide
overflow_mul-wide c =
    let a = c.args in
    let pre = c.requires in
    omega (arith, pairs_bytes a.file a.pairs c.size_width-pair.result pre c.size_width-pair.ensures.0)

pub overflow_add-wide-2 : goal.overflow_add-wide-2
overflow_add-wide-2 c =
    let a = c.args in
    let pre = c.requires in
    omega (arith, pairs_bytes a.file a.pairs c.size_width-pair.result pre c.size_width-pair.ensures.0)

pub overflow_add-wide-3 : goal.overflow_add-wide-3
overflow_add-wide-3 c =
    let a = c.args in
    let pre = c.requires in
    omega (arith, pairs_bytes a.file a.pairs c.size_width-pair.result pre c.size_width-pair.ensures.0)

pub overflow_cast-result : goal.overflow_cast-result
overflow_cast-result c =
    let a = c.args in
    let pre = c.requires in
    omega (arith, pairs_bytes a.file a.pairs c.size_width-pair.result pre c.size_width-pair.ensures.0)

pub returns : goal.returns
returns c = data_is _ _ _ _ _ c.size_width-pair.ensures.0 c.bit.ensures.0
