-- `fields::be::put_number` meets its contract. The loop's invariant: to write what is left gives what is to be written.
use mathlib.Core.Path.{◌≡◌, ◌∙◌}
use native.Mathlib.Omega.{arith}
use Rattle.fields.proofs.BigEndian.{put_turn, put_done}
use Rattle.fields.proofs.be.put_number.Goals as goal

pub loop-i-preserved : goal.loop-i-preserved
loop-i-preserved c =
    let l = c.loop-i in
    put_turn l.buf c.args.at l.i l.v c.loop-i-test.true (omega arith) ∙ l.invariant

pub returns : goal.returns
returns c =
    let l = c.loop-i in
    let e : l.i ≡ 0 = omega arith in
    put_done l.buf c.args.at l.v ∙ (rw e at l.invariant)
