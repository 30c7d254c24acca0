-- `cfdp::plans::cfdp_plan_check` meets its contract: what the check says, of the header that was given.
use mathlib.Core.Path.{ap, ◌∙◌}
use Rattle.std.proofs.Common.{rules}
use Rattle.cfdp.specs.Shown.{shown, verdict_number}
use Rattle.cfdp.proofs.Given.{chained}
use Rattle.cfdp.proofs.plans.cfdp_plan_check.Goals as goal

pub returns : goal.returns
returns c = c.show.ensures ∙ ap (shown verdict_number) (chained _ _ _ _ _ c.header_from-joined.ensures (λ h p. search rules) c.and_then-checked.ensures)
