-- The exit of a `?`: the refusal that came is handed on, and so is what it says.
-- Assumes nothing.
use mathlib.Core.Path.{◌≡◌, refl, ap}
use Rattle.std.specs.Prelude.{Result, Err, IsErrAnd}
use Rattle.std.proofs.lemmas.Result.{err_from_is_err_and}
use Rattle.fields.specs.declared.refusal.Refusal.{Refusal}
use Rattle.fields.specs.Refusal.{paper}
use Rattle.fields.specs.Answer.{told, answer_of}

pub handed : {A : Type 0} (r : Result A Refusal) (x : Refusal) → IsErrAnd r (λ e. e ≡ x) → r ≡ Err x
handed r x h = let p = err_from_is_err_and {Q = λ (e : Refusal). e ≡ x} r h in rw (p.1, p.2) refl

pub handed_on : {A : Type 0} (r : Result A Refusal) (x : Refusal) → IsErrAnd r (λ e. e ≡ x) → answer_of r ≡ told (paper x)
handed_on r x h = ap answer_of (handed r x h)
