-- `cfdp::headers::cfdp_header_build` meets its contract: what judging says, of the header that was given.
use mathlib.Core.Path.{ap, ◌∙◌}
use Rattle.std.proofs.Common.{rules}
use Rattle.cfdp.specs.Shown.{shown, header_numbers}
use Rattle.cfdp.proofs.Given.{chained}
use Rattle.cfdp.proofs.headers.cfdp_header_build.Goals as goal

pub returns : goal.returns
returns c = c.show.ensures ∙ ap (shown header_numbers) (chained _ _ _ _ _ c.header_from-joined.ensures (λ h p. search rules) c.and_then-built.ensures)
