-- `cfdp::eofs::cfdp_eof_write` meets its contract: what the writer says and stores, of the header that was given.
use mathlib.Core.Path.{ap, ◌∙◌}
use Rattle.std.proofs.Common.{rules}
use Rattle.cfdp.specs.Shown.{shown, written_numbers}
use Rattle.cfdp.proofs.Given.{lent}
use Rattle.cfdp.proofs.eofs.cfdp_eof_write.Goals as goal

pub returns : goal.returns
returns c =
    let p = lent _ _ _ _ _ _ _ _ c.header_from-joined.ensures (λ h m. (search rules, search rules)) c.with_header-written.ensures in
    record { answered = c.show.ensures ∙ ap (shown written_numbers) p.0; stored = p.1 }
