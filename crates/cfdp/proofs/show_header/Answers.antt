-- `cfdp::show_header` meets its contract: the seven flags by their bits, the rest as it stands.
use mathlib.Core.Path.{ap}
use mathlib.Core.List.{List, ◌∷◌}
use Prim.Native.Nat.{ℕ}
use Rattle.cfdp.proofs.Shown.{header_numbers_lem}
use Rattle.cfdp.proofs.show_header.Goals as goal

pub returns : goal.returns
returns c =
    let a = c.args in
    let bit = c.bit in
    let bit2 = c.bit-2 in
    let bit3 = c.bit-3 in
    let bit4 = c.bit-4 in
    let bit5 = c.bit-5 in
    let bit6 = c.bit-6 in
    let bit7 = c.bit-7 in
    ap (λ (ns : List ℕ). 0 ∷ ns)
    (header_numbers_lem a.header _ _ _ _ _ _ _ _ bit.ensures.0 bit2.ensures.0 bit3.ensures.0 bit4.ensures.0 bit5.ensures.0
    bit6.ensures.0 bit7.ensures.0)
