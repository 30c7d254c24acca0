-- `cfdp::show_refusal` meets its contract: the number and the values, which are at most two.
use mathlib.Core.Path.{◌∙◌}
use Rattle.cfdp.proofs.Shown.{refusal_numbers}
use Rattle.cfdp.proofs.show_refusal.Goals as goal

pub returns : goal.returns
returns c =
    c.show_few.ensures ∙ refusal_numbers _ _ c.numbers-n.ensures
