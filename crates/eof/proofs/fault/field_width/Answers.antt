-- `eof::fault::field_width` meets its contract: the length of the one field, or 0.
use mathlib.Core.Path.{sym, ◌∙◌}
use native.Mathlib.Omega.{arith}
use Rattle.eof.proofs.Faults.{only_byte}
use Rattle.eof.proofs.fault.field_width.Goals as goal

pub overflow_cast-result : goal.overflow_cast-result
overflow_cast-result c = omega (arith, only_byte _ _ (sym c.in-Some.is ∙ c.only_field.ensures) (λ i. omega (arith, c.type_inv.rest i)))
