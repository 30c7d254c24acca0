-- `header::size::read_size` meets its contract: what does not lie in the slice reads as 0, and in a part of just its bytes a number is the slice's.
use mathlib.Core.Path.{refl, sym, ◌∙◌}
use native.Mathlib.Omega.{arith}
use Rattle.header.specs.declared.flags.LargeFileFlag.TheVariants.{Normal, Large}
use Rattle.header.proofs.Sizes.{size_nowhere, size_inside, size_read}
use Rattle.header.proofs.size.read_size.Goals as goal

pub returns-then-not-lies_in : goal.returns-then-not-lies_in
returns-then-not-lies_in c =
    let a = c.args in
    size_nowhere a.file Normal c.in-Normal.is a.s.now a.at 4 refl (omega arith)
    (sym c.lies_in.ensures ∙ c.if-not-lies_in.true)

pub overflow_add-at : goal.overflow_add-at
overflow_add-at c =
    let a = c.args in
    omega
    (arith, size_inside a.file Normal c.in-Normal.is a.s.now a.at 4 refl (omega arith) (sym c.lies_in.ensures ∙ c.if-not-lies_in.false))

pub slice_bounds-read_be-end : goal.slice_bounds-read_be-end
slice_bounds-read_be-end c =
    let a = c.args in
    omega
    (arith, size_inside a.file Normal c.in-Normal.is a.s.now a.at 4 refl (omega arith) (sym c.lies_in.ensures ∙ c.if-not-lies_in.false))

pub returns-then-not-lies_in-2 : goal.returns-then-not-lies_in-2
returns-then-not-lies_in-2 c =
    let a = c.args in
    size_nowhere a.file Large c.in-Large.is a.s.now a.at 8 refl (omega arith)
    (sym c.lies_in-in-Large.ensures ∙ c.if-not-lies_in-2.true)

pub overflow_add-at-in-Large : goal.overflow_add-at-in-Large
overflow_add-at-in-Large c =
    let a = c.args in
    omega
    (arith, size_inside a.file Large c.in-Large.is a.s.now a.at 8 refl (omega arith) (sym c.lies_in-in-Large.ensures ∙ c.if-not-lies_in-2.false))

pub slice_bounds-read_be-end-in-Large : goal.slice_bounds-read_be-end-in-Large
slice_bounds-read_be-end-in-Large c =
    let a = c.args in
    omega
    (arith, size_inside a.file Large c.in-Large.is a.s.now a.at 8 refl (omega arith) (sym c.lies_in-in-Large.ensures ∙ c.if-not-lies_in-2.false))

pub returns-else-not-lies_in : goal.returns-else-not-lies_in
returns-else-not-lies_in c =
    let a = c.args in
    let lies_in = c.lies_in in
    size_read a.file Normal c.in-Normal.is a.s.now a.at 4 refl (omega arith) _
    (sym lies_in.ensures ∙ c.if-not-lies_in.false) c.read_be.ensures.0

pub returns-else-not-lies_in-2 : goal.returns-else-not-lies_in-2
returns-else-not-lies_in-2 c =
    let a = c.args in
    let lies-in2 = c.lies_in-in-Large in
    size_read a.file Large c.in-Large.is a.s.now a.at 8 refl (omega arith) _
    (sym lies-in2.ensures ∙ c.if-not-lies_in-2.false) c.read_be-in-Large.ensures.0
