-- `nak::reserve::ReservedNak::new` meets its contract: the judgement's refusal, or the place of the requests.
use mathlib.Core.Path.{◌∙◌}
use Rattle.fields.proofs.Handed.{handed_on}
use Rattle.nak.proofs.Reserving.{not_reserved, reserved_is}
use Rattle.nak.proofs.reserve.ReservedNak.new.Goals as goal

pub returns-in_err-judge_write : goal.returns-in_err-judge_write
returns-in_err-judge_write c =
    handed_on _ _ c.from_residual.ensures.1
    ∙ not_reserved _ _ _ _ c.towards_sender.ensures _ c.pairs_length-own.ensures _ c.with_data-header.ensures _ c.in_err-judge_write.ensures

pub returns : goal.returns
returns c =
    reserved_is _ _ _ _ c.towards_sender.ensures _ c.pairs_length-own.ensures _ c.with_data-header.ensures _ _
    c.in_ok-judge_write.ensures c.place.ensures
