-- `cfdp::headers::cfdp_header_verify` meets its contract: what verifying says, of the header that was given.
use mathlib.Core.Path.{ap, ◌∙◌}
use Rattle.std.proofs.Common.{rules}
use Rattle.cfdp.specs.Shown.{shown, one_number}
use Rattle.cfdp.proofs.Given.{chained}
use Rattle.cfdp.proofs.headers.cfdp_header_verify.Goals as goal

pub returns : goal.returns
returns c = c.show.ensures ∙ ap (shown one_number) (chained _ _ _ _ _ c.header_from-joined.ensures (λ h p. search rules) c.and_then-verified.ensures)
