-- `put_pair` of `u64` meets its contract: the second number is stored behind the first.
use Rattle.std.proofs.Common.{arith, rules, ◌∙◌}
use Rattle.nak.specs.Writing.{pair_put}
use Rattle.nak.proofs.Storing.{pair_as_two, pair_fits}
use Rattle.nak.proofs.offset.U64Offset.put_pair.Goals as goal

pub returns-then-buf-ne16 : goal.returns-then-buf-ne16
unfolding pair_put
returns-then-buf-ne16 c = search rules

pub returns-then-pair-ne2 : goal.returns-then-pair-ne2
unfolding pair_put
returns-then-pair-ne2 c = search rules

pub returns : goal.returns
returns c =
    pair_as_two 8 c.args.buf.now _ _ c.args.pair.now (omega arith) c.if-buf-ne16.false c.if-pair-ne2.false (omega (arith, (c.type_inv.pair 0).fits)) (omega (arith, (c.type_inv.pair 1).fits))
    c.write_be.ensures c.write_be-2.ensures
    ∙ pair_fits 8 c.args.buf.now c.args.pair.now c.if-buf-ne16.false c.if-pair-ne2.false
