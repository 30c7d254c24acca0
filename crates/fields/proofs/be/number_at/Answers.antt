-- `fields::be::number_at` meets its contract. The loop's invariant: the value so far and the bytes that are left give the number, and the value has as many bytes as were read.
use mathlib.Core.Path.{◌≡◌, ◌∙◌, refl}
use native.Mathlib.Omega.{arith}
use borrow.Author.Rules.{rules}
use Rattle.fields.proofs.BigEndian.{room, grows, read_start, read_turn, read_done}
use Rattle.fields.proofs.be.number_at.Goals as goal

pub loop-i-init : goal.loop-i-init
loop-i-init c = (search rules, read_start _ _ _)

pub overflow_mul-value : goal.overflow_mul-value
overflow_mul-value c = omega (arith, room c.loop-i.i c.loop-i.value 0)

pub overflow_add-value-in-loop-i : goal.overflow_add-value-in-loop-i
overflow_add-value-in-loop-i c =
    let l = c.loop-i in
    record { fits = room l.i l.value _ (omega arith) l.invariant.0 (search rules) }

pub loop-i-preserved : goal.loop-i-preserved
loop-i-preserved c =
    let l = c.loop-i in
    (grows l.i l.value _ l.invariant.0 (search rules), read_turn l.value _ _ _ l.i _ (search rules) (omega arith) refl ∙ l.invariant.1)

pub returns : goal.returns
returns c =
    let a = c.args in
    let l = c.loop-i in
    let e : l.i ≡ a.width = omega arith in
    (read_done _ _ _ _ a.width l.i (omega arith) l.invariant.1, rw e at l.invariant.0)
