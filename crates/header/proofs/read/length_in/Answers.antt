-- `header::read::length_in` meets its contract: each exit's answer is the stages'.
use Prim.Native.Nat.{◌+◌, ◌*◌}
use mathlib.Core.Path.{sym, ◌∙◌}
use native.Mathlib.Omega.{arith}
use lib.Seq.{length-take-le}
use Rattle.fields.proofs.Handed.{handed}
use Rattle.fields.proofs.Judging.{passed}
use Rattle.header.specs.Judging.{width_tests}
use Rattle.header.proofs.Reading.{short_4, bad_version, bad_widths, short_h, whole, holds}
use Rattle.header.proofs.read.length_in.Goals as goal

pub returns-then-n-lt-FIXED_HEADER_LEN : goal.returns-then-n-lt-FIXED_HEADER_LEN
returns-then-n-lt-FIXED_HEADER_LEN c = rw c.short.ensures (short_4 _ c.if-n-lt-FIXED_HEADER_LEN.true)

pub slice_bounds-fixed-end : goal.slice_bounds-fixed-end
slice_bounds-fixed-end c = sym (length-take-le 4 c.args.buf.now (omega arith))

pub bounds-fixed-0 : goal.bounds-fixed-0
bounds-fixed-0 c = omega (arith, length-take-le 4 c.args.buf.now (omega arith))

pub returns-then-version-ne-CFDP_VERSION_2 : goal.returns-then-version-ne-CFDP_VERSION_2
returns-then-version-ne-CFDP_VERSION_2 c = bad_version _ (omega arith) _ c.three_at-version.ensures c.if-version-ne-CFDP_VERSION_2.true

pub bounds-fixed-3 : goal.bounds-fixed-3
bounds-fixed-3 c =
    let a = c.args in
    omega (arith, length-take-le 4 a.buf.now (omega arith))

pub bounds-fixed-3-2 : goal.bounds-fixed-3-2
bounds-fixed-3-2 c =
    let a = c.args in
    omega (arith, length-take-le 4 a.buf.now (omega arith))

pub returns-in_err-judge_widths : goal.returns-in_err-judge_widths
returns-in_err-judge_widths c =
    rw (handed _ _ c.from_residual.ensures.1)
    (bad_widths _ (omega arith) (sym c.three_at-version.ensures ∙ c.if-version-ne-CFDP_VERSION_2.false) _ _ c.width_at-entity.ensures.0 (omega arith) _
    c.in_err-judge_widths.ensures)

pub returns-then-n-len : goal.returns-then-n-len
returns-then-n-len c =
    rw c.short-then-n-len.ensures
    (short_h _ (omega arith) (sym c.three_at-version.ensures ∙ c.if-version-ne-CFDP_VERSION_2.false) c.width_at-entity.result c.width_at-sequence.result c.width_at-entity.ensures.0
    (omega arith)
    (passed (width_tests c.width_at-entity.result c.width_at-sequence.result) tt tt c.in_ok-judge_widths.ensures).0 _
    (omega arith) c.if-n-len.true)

pub returns : goal.returns
returns c =
    let a = c.args in
    let h = 4 + 2 * c.width_at-entity.result + c.width_at-sequence.result in (
      omega arith,
      holds a.buf.now h (omega arith) (omega arith),
      whole _ (omega arith) (sym c.three_at-version.ensures ∙ c.if-version-ne-CFDP_VERSION_2.false) c.width_at-entity.result c.width_at-sequence.result c.width_at-entity.ensures.0
          (omega arith)
          (passed (width_tests c.width_at-entity.result c.width_at-sequence.result) tt tt c.in_ok-judge_widths.ensures).0 h
          (omega arith) (omega arith),
    )
