-- `nak::compare::compare_numbers` meets its contract: the reader's refusal, or what was read is compared.
use Rattle.std.proofs.Common.{sym, ap₂, ◌∙◌, refl, ℕ}
use Rattle.fields.proofs.Handed.{handed_on}
use Rattle.header.specs.declared.flags.LargeFileFlag.{LargeFileFlag}
use Rattle.nak.specs.Within.{comparing_read}
use Rattle.nak.proofs.Offsets.{numbers_count}
use Rattle.nak.proofs.Comparing.{refused_reading, list_decides}
use Rattle.nak.proofs.compare.compare_numbers.Goals as goal

pub returns-in_err-nak : goal.returns-in_err-nak
returns-in_err-nak g c = handed_on _ _ c.from_residual.ensures.1 ∙ refused_reading _ _ _ _ _ _ _ c.in_err-nak.ensures

pub returns : goal.returns
returns g c =
    let t = g.T.Offset in
    let a = c.args in
    let count = numbers_count t.number t.numbers t.each a.numbers.now in
    c.compare_read.ensures
    ∙ ap₂ (λ (f : LargeFileFlag) (n : ℕ). comparing_read f a.header a.start a.end n c.in_ok-nak.nak c.holds_numbers-held.result) c.file_flag.ensures (sym count)
    ∙ list_decides t.file a.header a.start a.end (t.numbers a.numbers.now) a.buf.now _ c.in_ok-nak.ensures _ _ _ refl c.request_area.ensures c.holds_numbers-held.ensures
