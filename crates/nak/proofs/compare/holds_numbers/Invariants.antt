-- `nak::compare::holds_numbers`: what is left of the area against the numbers that are left decides.
use Rattle.std.proofs.Common.{◌≡◌, ◌≤◌, length, drop}
use Rattle.header.specs.Size.{size_width}
use Rattle.nak.specs.Comparing.{holds_numbers}
use Rattle.nak.proofs.compare.holds_numbers.Given as goal

abbrev pub invariant-loop-n : goal.invariant-loop-n
invariant-loop-n g l =
    let t = g.T.Offset in
    let w = size_width t.file in
    (l.at ≤ length l.area) × (holds_numbers w (drop l.at l.area) (t.numbers (drop l.n-index l.numbers)) ≡ holds_numbers w l.area (t.numbers l.numbers))
