-- `put_pair` of `u32` meets its contract: both numbers, put together and exchanged, are stored as one.
use Rattle.std.proofs.Common.{arith, rules, get_or, ◌∙◌}
use Rattle.nak.specs.Writing.{pair_put}
use Rattle.nak.proofs.Storing.{exchanged_pair, pair_as_one, pair_fits}
use Rattle.nak.proofs.offset.U32Offset.put_pair.Goals as goal

pub returns-then-buf-ne8 : goal.returns-then-buf-ne8
unfolding pair_put
returns-then-buf-ne8 c = search rules

pub returns-then-pair-ne2 : goal.returns-then-pair-ne2
unfolding pair_put
returns-then-pair-ne2 c = search rules

pub returns : goal.returns
returns c =
    let ns = c.args.pair.now in
    let is = exchanged_pair 4294967296 (get_or ns 0 0) (get_or ns 1 0) _ _ (omega (arith, (c.type_inv.pair 0).fits)) (omega (arith, (c.type_inv.pair 1).fits)) c.two_of.ensures c.exchanged.ensures in
    pair_as_one 4 _ c.args.buf.now _ ns (omega arith) c.if-buf-ne8.false c.if-pair-ne2.false (omega (arith, (c.type_inv.pair 1).fits)) is.0 is.1 c.write_be.ensures
    ∙ pair_fits 4 c.args.buf.now ns c.if-buf-ne8.false c.if-pair-ne2.false
