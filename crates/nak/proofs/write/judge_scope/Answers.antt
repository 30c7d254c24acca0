-- `nak::write::judge_scope` meets its contract: in a normal NAK the scope decides.
use mathlib.Core.Path.{sym, ◌∙◌}
use Rattle.nak.proofs.Tests.{scope_refused, scope_normal}
use Rattle.nak.proofs.write.judge_scope.Goals as goal

pub returns-then-not-scope_fits : goal.returns-then-not-scope_fits
returns-then-not-scope_fits c = scope_refused _ _ _ c.in_default.is (sym c.scope_fits.ensures ∙ c.if-not-scope_fits.true)

pub returns : goal.returns
returns c = scope_normal _ _ _ c.in_default.is (sym c.scope_fits.ensures ∙ c.if-not-scope_fits.false)
