-- `nak::write::put_numbers`: storing the pairs that are left gives what is to be stored.
use Rattle.std.proofs.Common.{◌≡◌, ◌+◌, ◌*◌, drop}
use Rattle.std.proofs.lemmas.List.Edits.{sets}
use Rattle.header.specs.Size.{size_width}
use Rattle.nak.specs.Writing.{numbers_bytes}
use Rattle.nak.proofs.write.put_numbers.Given as goal

abbrev pub invariant-loop-i : goal.invariant-loop-i
invariant-loop-i g l =
    let t = g.T.Offset in
    let w = size_width t.file in
    sets l.buf (l.at + l.pair * l.i) (numbers_bytes w (drop (2 * l.i) (t.numbers l.numbers))) ≡ sets l.fn.buf l.at (numbers_bytes w (t.numbers l.numbers))
