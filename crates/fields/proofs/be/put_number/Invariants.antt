-- `fields::be::put_number` meets its contract. The loop's invariant: to write what is left gives what is to be written.
use mathlib.Core.Path.{◌≡◌}
use Rattle.fields.specs.BigEndian.{overwritten}
use Rattle.fields.proofs.be.put_number.Given as goal

abbrev pub invariant-loop-i : goal.invariant-loop-i
invariant-loop-i l = overwritten l.buf l.at l.i l.v ≡ overwritten l.initial.buf l.at l.width l.value
