-- `cfdp::reserve::cfdp_nak_reserve` meets its contract: what reserving says, of the header that was given.
use mathlib.Core.Path.{ap, ◌∙◌}
use Rattle.std.proofs.Common.{rules}
use Rattle.cfdp.specs.Shown.{shown, reserved_numbers}
use Rattle.cfdp.proofs.Given.{chained}
use Rattle.cfdp.proofs.reserve.cfdp_nak_reserve.Goals as goal

pub returns : goal.returns
returns c = c.show.ensures ∙ ap (shown reserved_numbers) (chained _ _ _ _ _ c.header_from-joined.ensures (λ h p. search rules) c.and_then-reserved.ensures)
