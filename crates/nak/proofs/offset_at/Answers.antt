-- `nak::offset_at` meets its contract: for each file flag, the number in a part of just its bytes.
use native.Mathlib.Omega.{arith}
use Rattle.header.specs.declared.flags.LargeFileFlag.TheVariants.{Normal, Large}
use Rattle.nak.proofs.Walking.{offset_there, offset_read}
use Rattle.nak.proofs.offset_at.Goals as goal

pub overflow_add-at : goal.overflow_add-at
overflow_add-at c =
    let a = c.args in
    let pre = c.requires in
    omega (arith, offset_there a.file Normal c.in-Normal.is a.s.now a.at pre)

pub slice_bounds-read_be-end : goal.slice_bounds-read_be-end
slice_bounds-read_be-end c =
    let a = c.args in
    let pre = c.requires in
    offset_there a.file Normal c.in-Normal.is a.s.now a.at pre

pub overflow_add-at-in-Large : goal.overflow_add-at-in-Large
overflow_add-at-in-Large c =
    let a = c.args in
    let pre = c.requires in
    omega (arith, offset_there a.file Large c.in-Large.is a.s.now a.at pre)

pub slice_bounds-read_be-end-in-Large : goal.slice_bounds-read_be-end-in-Large
slice_bounds-read_be-end-in-Large c =
    let a = c.args in
    let pre = c.requires in
    offset_there a.file Large c.in-Large.is a.s.now a.at pre

pub returns-in-Normal : goal.returns-in-Normal
returns-in-Normal c =
    let a = c.args in
    let pre = c.requires in
    offset_read a.file Normal c.in-Normal.is a.s.now a.at pre _ c.read_be.ensures.0

pub returns-in-Large : goal.returns-in-Large
returns-in-Large c =
    let a = c.args in
    let pre = c.requires in
    offset_read a.file Large c.in-Large.is a.s.now a.at pre _ c.read_be-in-Large.ensures.0
