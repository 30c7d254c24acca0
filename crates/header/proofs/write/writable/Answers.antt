-- `header::write::writable` meets its contract: each exit's answer is the definition's.
use mathlib.Core.Path.{◌∙◌}
use mathlib.Core.List.{[], ◌∷◌}
use Rattle.fields.proofs.Handed.{handed_on}
use Rattle.fields.proofs.Judging.{passed}
use Rattle.header.specs.Writing.{no_room}
use Rattle.header.proofs.Judging.{passed_tests}
use Rattle.header.proofs.Writing.{refused_record, short_of_h, enough}
use Rattle.header.proofs.write.writable.Goals as goal

pub returns-in_err-judged : goal.returns-in_err-judged
returns-in_err-judged c = handed_on _ _ c.from_residual.ensures.1 ∙ refused_record _ _ _ c.in_err-judged.ensures

pub returns-in_err-judge_room : goal.returns-in_err-judge_room
returns-in_err-judge_room c =
    handed_on _ _ c.from_residual-in_err-judge_room.ensures.1 ∙ short_of_h _ (passed_tests _ _ c.in_ok-judged.ensures) _ _ _ c.header_len-len.ensures.0
    c.in_err-judge_room.ensures

pub returns : goal.returns
returns c =
    let a = c.args in
    enough _ (passed_tests _ _ c.in_ok-judged.ensures) _ _ c.header_len-len.ensures.0
    (passed (no_room a.room c.header_len-len.result ∷ []) tt tt c.in_ok-judge_room.ensures).0
