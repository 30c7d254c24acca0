-- `cfdp::read::cfdp_nak_pairs` meets its contract. The loop's invariant: storing the pairs that are left gives what is to be stored.
use Prim.Native.Nat.{◌/◌}
use mathlib.Core.Path.{sym, ◌∙◌}
use native.Mathlib.Omega.{arith}
use lib.ListN.{length, take, length-take}
use Rattle.std.proofs.lemmas.Option.{slice_get_within}
use Rattle.cfdp.specs.Pairs.{pairs_in}
use Rattle.cfdp.proofs.Pairs.{pair_turn, pairs_done, pair_none}
use Rattle.cfdp.proofs.read.cfdp_nak_pairs.Goals as goal

pub returns-in_default-clause-stored : goal.returns-in_default-clause-stored
returns-in_default-clause-stored c =
    let l = c.loop-i in
    let s = c.args.numbers.now in
    let ps = pairs_in c.args.large c.args.area.now in
    let room = length-take (length s / 2) ps in
    let none = pair_none ps l.i c.in_default.ensures in
    pairs_done (take (length s / 2) ps) l.i s l.numbers (omega arith) (omega arith) l.invariant.1

pub loop-i-preserved : goal.loop-i-preserved
loop-i-preserved c =
    let l = c.loop-i in
    let n = length c.args.numbers.now / 2 in
    let ps = pairs_in c.args.large c.args.area.now in
    let room = length-take n ps in
    let here = slice_get_within ps l.i _ (sym c.in-Some.ensures) in
    (omega arith, pair_turn ps n l.i l.numbers c.loop-i-test.true _ _ c.in-Some.ensures ∙ l.invariant.1)

pub returns-clause-stored : goal.returns-clause-stored
returns-clause-stored c =
    let l = c.loop-i in
    let s = c.args.numbers.now in
    let ps = pairs_in c.args.large c.args.area.now in
    let room = length-take (length s / 2) ps in
    pairs_done (take (length s / 2) ps) l.i s l.numbers (omega arith) (omega arith) l.invariant.1
