-- `cfdp::write::cfdp_nak_most` meets its contract: what counting says, of the header that was given.
use mathlib.Core.Path.{ap, ◌∙◌}
use Rattle.std.proofs.Common.{rules}
use Rattle.cfdp.specs.Shown.{shown, one_number}
use Rattle.cfdp.proofs.Given.{chained}
use Rattle.cfdp.proofs.write.cfdp_nak_most.Goals as goal

pub returns : goal.returns
returns c = c.show.ensures ∙ ap (shown one_number) (chained _ _ _ _ _ c.header_from-joined.ensures (λ h p. search rules) c.and_then-most.ensures)
