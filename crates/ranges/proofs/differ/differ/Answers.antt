-- `ranges::differ::differ` meets its contract: the first reading's refusal, or what the second one and the pairs say.
use mathlib.Core.Path.{◌∙◌}
use Rattle.fields.proofs.Handed.{handed_on}
use Rattle.ranges.proofs.Differing.{first_refused, first_read}
use Rattle.ranges.proofs.differ.differ.Goals as goal

pub returns-in_err-nak1 : goal.returns-in_err-nak1
returns-in_err-nak1 c =
    let both = first_refused _ _ _ _ c.in_err-nak1.ensures in
    record { answered = handed_on _ _ c.from_residual.ensures.1 ∙ both.answered; stored = both.stored }

pub returns : goal.returns
returns c = first_read _ _ _ _ c.in_ok-nak1.ensures _ _ c.compare_read.ensures
