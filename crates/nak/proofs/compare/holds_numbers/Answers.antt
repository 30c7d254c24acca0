-- `nak::compare::holds_numbers` meets its contract: the first of the numbers that are left decides, or those behind it.
use Rattle.std.proofs.Common.{arith, refl, sym, ap, ◌∙◌, ◌+◌, ℕ, drop}
use Rattle.fields.specs.BigEndian.{number_at}
use Rattle.header.specs.declared.flags.LargeFileFlag.{LargeFileFlag}
use Rattle.header.specs.Size.{size_width}
use Rattle.nak.specs.Comparing.{holds_numbers}
use Rattle.nak.proofs.Offsets.{numbers_left, numbers_none}
use Rattle.nak.proofs.Comparing.{number_short, number_differs, number_same, numbers_end}
use Rattle.nak.proofs.compare.holds_numbers.Goals as goal

pub loop-n-init : goal.loop-n-init
loop-n-init g c = (omega arith, refl)

pub returns-then-area-at : goal.returns-then-area-at
returns-then-area-at g c =
    let t = g.T.Offset in
    let l = c.loop-n in
    let w = size_width t.file in
    let width = c.size_width-width.ensures.0 ∙ ap size_width c.file_flag-file.ensures in
    let left = numbers_left t.number t.numbers t.each c.args.numbers.now l.n-index c.n-item.result c.loop-n-test.true in
    number_short w _ l.at _ _ (omega (arith, width)) ∙ ap (holds_numbers w (drop l.at c.args.area.now)) (sym left) ∙ l.invariant.1

pub returns-then-offset_at-number : goal.returns-then-offset_at-number
returns-then-offset_at-number g c =
    let t = g.T.Offset in
    let l = c.loop-n in
    let w = size_width t.file in
    let width = c.size_width-width.ensures.0 ∙ ap size_width c.file_flag-file.ensures in
    let left = numbers_left t.number t.numbers t.each c.args.numbers.now l.n-index c.n-item.result c.loop-n-test.true in
    let read = c.offset_at.ensures ∙ ap (λ (f : LargeFileFlag). number_at c.args.area.now l.at (size_width f)) c.file_flag-file.ensures in
    let v = c.number.ensures ∙ ap t.number c.n-item.is in
    number_differs w _ l.at _ _ (omega (arith, width)) _ read (λ e. c.if-offset_at-number.true (e ∙ sym v))
    ∙ ap (holds_numbers w (drop l.at c.args.area.now)) (sym left)
    ∙ l.invariant.1

pub loop-n-preserved : goal.loop-n-preserved
loop-n-preserved g c =
    let t = g.T.Offset in
    let l = c.loop-n in
    let w = size_width t.file in
    let width = c.size_width-width.ensures.0 ∙ ap size_width c.file_flag-file.ensures in
    let left = numbers_left t.number t.numbers t.each c.args.numbers.now l.n-index c.n-item.result c.loop-n-test.true in
    let read = c.offset_at.ensures ∙ ap (λ (f : LargeFileFlag). number_at c.args.area.now l.at (size_width f)) c.file_flag-file.ensures in
    let v = c.number.ensures ∙ ap t.number c.n-item.is in
    let rest = t.numbers (drop (l.n-index + 1) c.args.numbers.now) in (
      omega arith,
      ap (λ (n : ℕ). holds_numbers w (drop (l.at + n) c.args.area.now) rest) width
          ∙ number_same w _ l.at _ _ (omega (arith, width)) _ read (c.if-offset_at-number.false ∙ v)
          ∙ ap (holds_numbers w (drop l.at c.args.area.now)) (sym left)
          ∙ l.invariant.1,
    )

pub returns : goal.returns
returns g c =
    let t = g.T.Offset in
    let l = c.loop-n in
    let w = size_width t.file in
    let none = numbers_none t.number t.numbers t.each c.args.numbers.now l.n-index c.loop-n-test.false in
    numbers_end w c.args.area.now l.at l.invariant.0 ∙ ap (holds_numbers w (drop l.at c.args.area.now)) (sym none) ∙ l.invariant.1
