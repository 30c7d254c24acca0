-- DEMAND 3 of the code's own answers: they are the definition's, and an answer leaves one result.
-- Assumes nothing.
use Prim.Native.Nat.{ℕ}
use mathlib.Core.Path.{◌≡◌, refl, sym, ap, ◌∙◌, subst}
use mathlib.Core.List.{List, ◌++◌}
use lib.ListN.{length}
use Rattle.fields.specs.declared.refusal.Refusal.{Refusal}
use Rattle.fields.specs.declared.refusal.Refusal.TheVariants.{FromSliceTooSmall}
use Rattle.fields.specs.Refusal.{paper}
use Rattle.fields.specs.Answer.{Answer, short, told}
use Rattle.fields.specs.Demand3.{Final, Demand3, CodeDemand3}
use Rattle.fields.proofs.Judging.{told_is_short}

module _ {A R : Type 0} (read : List ℕ → Answer A) (answer : R → Answer A) (no : Refusal → R) where
  module _ (says : (x : Refusal) → answer (no x) ≡ told (paper x)) where
    says_short : (r : R) (l n : ℕ) → r ≡ no (FromSliceTooSmall l n) → answer r ≡ short l n
    says_short r l n e = ap answer e ∙ says (FromSliceTooSmall l n) ∙ told_is_short l n

    pub code_demand3 : (k : ℕ) → Demand3 read k → ((a b : R) → answer a ≡ answer b → a ≡ b) → CodeDemand3 read answer no
    code_demand3 k d one =
        record {
          final = λ s t r q a f. one q r (a.longer ∙ d.final s t (subst Final a.first f) ∙ sym a.first);
          waits = λ s t r q l n a e h.
              one q _ (a.longer ∙ d.waits s t l n (sym a.first ∙ says_short r l n e) h ∙ sym (says_short _ (length (s ++ t)) n refl));
          enough = λ s t r q l m n a e h f.
              d.enough s t l m n (sym a.first ∙ says_short r l n e) h (sym a.longer ∙ says_short q m n f);
        }
