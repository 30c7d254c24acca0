-- `cfdp::compare::reader_first` meets its contract: the reader's refusal, or the one given.
use mathlib.Core.Path.{sym, ap, ◌∙◌}
use mathlib.Core.Bool.{Bool}
use Rattle.fields.specs.Answer.{Answer, told, and_then, answer_of}
use Rattle.fields.specs.Refusal.{paper}
use Rattle.fields.proofs.Judging.{told_on}
use Rattle.nak.specs.declared.Nak.{Nak}
use Rattle.cfdp.proofs.compare.reader_first.Goals as goal

pub returns-in-Err : goal.returns-in-Err
returns-in-Err c =
    let a = c.args in
    let from_bytes = c.from_bytes-read in
    sym (told_on {A = Nak} {B = Bool} _ (λ _. told (paper a.refusal)))
    ∙ ap (λ (o : Answer Nak). and_then {B = Bool} o (λ _. told (paper a.refusal)))
    (ap answer_of (sym c.in-Err.is) ∙ from_bytes.ensures)

pub returns-in-Ok : goal.returns-in-Ok
returns-in-Ok c =
    let a = c.args in
    let from_bytes = c.from_bytes-read in
    ap (λ (o : Answer Nak). and_then {B = Bool} o (λ _. told (paper a.refusal))) (ap answer_of (sym c.in-Ok.is) ∙ from_bytes.ensures)
