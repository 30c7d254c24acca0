-- `header::PduHeader::judge_write` meets its contract: the record's refusal, that of the own tests, or the room decides.
use Rattle.std.specs.Prelude.{ℕ, Result}
use mathlib.Core.Path.{sym, ap, ◌∙◌}
use Rattle.fields.specs.declared.refusal.Refusal.{Refusal}
use Rattle.fields.specs.Answer.{answer_of}
use Rattle.header.specs.Pdu.{beginning}
use Rattle.fields.proofs.Handed.{handed_on}
use Rattle.header.proofs.Pdus.{record_refused, own_refused, no_room_for, room_for}
use Rattle.header.proofs.PduHeader.judge_write.Goals as goal

pub returns-in_err-judged_directive : goal.returns-in_err-judged_directive
returns-in_err-judged_directive c = handed_on _ _ c.from_residual.ensures.1 ∙ record_refused _ _ _ _ c.in_err-judged_directive.ensures

pub returns-in_err-own : goal.returns-in_err-own
returns-in_err-own c =
    let a = c.args in
    handed_on _ _ c.from_residual-in_err-own.ensures.1 ∙ own_refused _ _ c.in_ok-judged_directive.ensures _
    ∙ ap (λ (o : Result ℕ Refusal). beginning a.self (answer_of o) a.room) (sym c.in_err-own.was)

pub returns-in_err-judge_room : goal.returns-in_err-judge_room
returns-in_err-judge_room c =
    let a = c.args in
    handed_on _ _ c.from_residual-in_err-judge_room.ensures.1 ∙ no_room_for _ _ c.in_ok-judged_directive.ensures _ _ c.pdu_len-length.ensures.0 _
    c.in_err-judge_room.ensures
    ∙ ap (λ (o : Result ℕ Refusal). beginning a.self (answer_of o) a.room) (sym c.in_ok-own.was)

pub returns : goal.returns
returns c =
    let a = c.args in
    room_for _ _ c.in_ok-judged_directive.ensures _ _ c.pdu_len-length.ensures.0
    c.in_ok-judge_room.ensures
    ∙ ap (λ (o : Result ℕ Refusal). beginning a.self (answer_of o) a.room) (sym c.in_ok-own.was)
