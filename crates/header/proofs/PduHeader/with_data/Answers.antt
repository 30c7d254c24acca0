-- `header::PduHeader::with_data` meets its contract: the length is filled in where the own tests gave one.
use Rattle.std.specs.Prelude.{ℕ, Result}
use mathlib.Core.Path.{sym, ap, ◌∙◌}
use Rattle.fields.specs.declared.refusal.Refusal.{Refusal}
use Rattle.fields.specs.Answer.{answer_of}
use Rattle.header.specs.Pdu.{with_data}
use Rattle.header.proofs.Pdus.{refused_data}
use Rattle.header.proofs.PduHeader.with_data.Goals as goal

pub returns-in-Err : goal.returns-in-Err
returns-in-Err c = refused_data _ _ ∙ ap (λ (o : Result ℕ Refusal). with_data (answer_of o) c.args.self) (sym c.in-Err.is)

pub returns-in-Ok : goal.returns-in-Ok
unfolding with_data
returns-in-Ok c =
    let a = c.args in
    c.with_datafield_len.ensures ∙ ap (λ (o : Result ℕ Refusal). with_data (answer_of o) a.self) (sym c.in-Ok.is)
