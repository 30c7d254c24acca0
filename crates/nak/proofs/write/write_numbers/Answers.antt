-- `nak::write::write_numbers` meets its contract: header, scope, numbers and checksum, one behind the other, or no byte changed.
use Rattle.std.proofs.Common.{ap, ◌∙◌, ℕ, length}
use Rattle.fields.proofs.Handed.{handed_on}
use Rattle.nak.specs.Writing.{writing_nak}
use Rattle.nak.proofs.Offsets.{numbers_count}
use Rattle.nak.proofs.Writing.{own_as, towards_as, not_written, scope_goes, numbers_go, nak_written}
use Rattle.nak.proofs.write.write_numbers.Goals as goal

pub put_scope-requires : goal.put_scope-requires
put_scope-requires g c =
    let t = g.T.Offset in
    let a = c.args in
    let ns = t.numbers a.numbers.now in
    let count = numbers_count t.number t.numbers t.each a.numbers.now in
    let flag = c.file_flag-file.ensures in
    let own = own_as _ t.file a.header a.start a.end _ (length ns) _ flag count c.data_length-own.ensures in
    let towards = towards_as _ t.file a.header _ flag c.towards_sender.ensures in
    let begun = c.in_ok-length.ensures in
    scope_goes t.file a.header a.start a.end ns a.buf.now _ towards _ own _ c.with_data-header.ensures _ _ begun.answered begun.stored

pub put_numbers-requires : goal.put_numbers-requires
put_numbers-requires g c =
    let t = g.T.Offset in
    let a = c.args in
    let ns = t.numbers a.numbers.now in
    let count = numbers_count t.number t.numbers t.each a.numbers.now in
    let flag = c.file_flag-file.ensures in
    let own = own_as _ t.file a.header a.start a.end _ (length ns) _ flag count c.data_length-own.ensures in
    let towards = towards_as _ t.file a.header _ flag c.towards_sender.ensures in
    let begun = c.in_ok-length.ensures in
    let go = numbers_go t.file a.header a.start a.end ns a.buf.now _ towards _ own _ c.with_data-header.ensures _ _ begun.answered begun.stored _ c.put_scope.ensures _
    c.area_start.ensures.0 in
    rw count at go

pub returns-in_err-length : goal.returns-in_err-length
returns-in_err-length g c =
    let t = g.T.Offset in
    let a = c.args in
    let ns = t.numbers a.numbers.now in
    let count = numbers_count t.number t.numbers t.each a.numbers.now in
    let flag = c.file_flag-file.ensures in
    let own = own_as _ t.file a.header a.start a.end _ (length ns) _ flag count c.data_length-own.ensures in
    let towards = towards_as _ t.file a.header _ flag c.towards_sender.ensures in
    let begun = c.in_err-length.ensures in
    let both = not_written t.file a.header a.start a.end ns a.buf.now _ towards _ own _ c.with_data-header.ensures _ _ begun.answered begun.stored in
    record {
      answered = handed_on _ _ c.from_residual.ensures.1 ∙ both.0 ∙ ap (λ (n : ℕ). writing_nak t.file a.header a.start a.end n (length a.buf.now)) count;
      stored = both.1;
    }

pub returns : goal.returns
returns g c =
    let t = g.T.Offset in
    let a = c.args in
    let ns = t.numbers a.numbers.now in
    let count = numbers_count t.number t.numbers t.each a.numbers.now in
    let flag = c.file_flag-file.ensures in
    let own = own_as _ t.file a.header a.start a.end _ (length ns) _ flag count c.data_length-own.ensures in
    let towards = towards_as _ t.file a.header _ flag c.towards_sender.ensures in
    let begun = c.in_ok-length.ensures in
    let both = nak_written t.file a.header a.start a.end ns a.buf.now _ towards _ own _ c.with_data-header.ensures _ _ begun.answered begun.stored _ c.put_scope.ensures _ _ _
    c.area_start.ensures.0 c.put_numbers.ensures.0 c.seal.ensures in
    record { answered = both.0 ∙ ap (λ (n : ℕ). writing_nak t.file a.header a.start a.end n (length a.buf.now)) count; stored = both.1 }
