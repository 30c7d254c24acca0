-- Which reader decides on a PDU.
-- Assumes nothing.
use Prim.Native.Nat.{ℕ}
use mathlib.Core.Path.{◌≡◌, refl, sym, ap, ◌∙◌}
use mathlib.Core.Bool.{Bool, true, false}
use mathlib.Core.List.{List}
use lib.ListN.{get_or}
use Rattle.fields.specs.declared.refusal.Refusal.{Refusal}
use Rattle.fields.specs.declared.refusal.Refusal.TheVariants.{WrongDirectiveType}
use Rattle.fields.specs.Refusal.{paper, numbers_of}
use Rattle.fields.specs.Answer.{accepted, told}
use Rattle.fields.specs.Staged.{run}
use Rattle.fields.proofs.Judging.{told_cases}
use Rattle.nak.specs.declared.Nak.{Nak}
use Rattle.nak.specs.Reading.{reading_nak}
use Rattle.listing.specs.Pdus.{is_listed_as, decided, is_listed}

-- ---- no other refusal names a directive

pub not_named : (r : Refusal) (s : List ℕ) → ((code : ℕ) → r ≡ WrongDirectiveType code → ⊥) → false ≡ is_listed_as (numbers_of r).number (numbers_of r).first s
unfolding is_listed_as
not_named (WrongDirectiveType code) s other = absurd (other code refl)
not_named _ s other = refl

-- ---- and what the NAK's reader says decides otherwise

told_decided : (ns s : List ℕ) → is_listed_as (get_or ns 0 0) (get_or ns 1 0) s ≡ decided s (told ns)
unfolding is_listed_as
told_decided ns s = sym (told_cases (decided s) (is_listed_as (get_or ns 0 0) (get_or ns 1 0) s) ns (λ one. rw one) refl)

pub other_listed : (r : Refusal) (s : List ℕ) (b : Bool) → b ≡ is_listed_as (numbers_of r).number (numbers_of r).first s
    → told (paper r) ≡ run reading_nak s → b ≡ is_listed s
unfolding is_listed
other_listed r s b e p = e ∙ told_decided (paper r) s ∙ ap (decided s) p

pub nak_listed : (n : Nak) (s : List ℕ) → accepted n ≡ run reading_nak s → true ≡ is_listed s
unfolding is_listed
nak_listed n s p = ap (decided s) p
