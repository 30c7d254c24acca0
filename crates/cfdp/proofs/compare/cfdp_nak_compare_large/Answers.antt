-- `cfdp::compare::cfdp_nak_compare_large` meets its contract: what comparing with large pairs says, of the header that was given.
use mathlib.Core.Path.{ap, ◌∙◌}
use Rattle.std.proofs.Common.{rules}
use Rattle.header.specs.declared.flags.LargeFileFlag.TheVariants.{Large}
use Rattle.header.specs.declared.PduHeader.{PduHeader}
use Rattle.cfdp.specs.Shown.{shown, verdict_number}
use Rattle.cfdp.proofs.Given.{compared}
use Rattle.cfdp.proofs.compare.cfdp_nak_compare_large.Goals as goal

pub returns : goal.returns
returns c =
    c.show.ensures
    ∙ ap (shown verdict_number)
    (compared (λ (h : PduHeader). Large) _ _ _ _ _ _ _ _ _ _ c.header_from.ensures c.map_err-joined.ensures.cases (λ q p f. search rules) (λ h m. search rules)
    c.and_then-compared.ensures)
