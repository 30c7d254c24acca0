-- What the bytes in the window say, at each exit of the code.
-- Assumes nothing.
use Prim.Native.Nat.{ℕ, ◌≤◌, ◌<◌, min}
use native.Mathlib.Nat.{le_refl}
use mathlib.Core.Path.{◌≡◌, refl, sym, ap, ◌∙◌}
use mathlib.Core.Bool.{Bool, true, false}
use mathlib.Core.List.{List, [], ◌∷◌}
use native.Mathlib.Omega.{arith}
use lib.Dec.{ltb}
use lib.ListN.{length, take, length-take}
use lib.Seq.{take_all}
use borrow.Author.Tests.{ltb-true, ltb-false, lt-ltb, le-ltb}
use Rattle.fields.specs.declared.refusal.Refusal.{Refusal}
use Rattle.fields.specs.declared.refusal.Refusal.TheVariants.{FromSliceTooSmall}
use Rattle.fields.specs.Refusal.{paper}
use Rattle.fields.specs.Answer.{Answer, short, refused, told}
use Rattle.fields.specs.Staged.{run}
use Rattle.fields.proofs.Judging.{told_is_short, told_other_refusal}
use Rattle.nak.specs.declared.Nak.{Nak}
use Rattle.nak.specs.Reading.{reading_nak}
use Rattle.receiver.specs.Receiving.{window_length, receiving}
use Rattle.receiver.specs.Within.{capped}
use Rattle.receiver.proofs.Reading.{capped_reading}

-- ---- of a refusal

pub other_refusal : (r : Refusal) → ((found need : ℕ) → r ≡ FromSliceTooSmall found need → ⊥) → ◌≡◌ {A = Answer Nak} (refused (paper r)) (capped (told (paper r)))
other_refusal r h = sym (ap capped (told_other_refusal r h))

module _ (found need : ℕ) where
  pub above_window_lem : window_length < need → ◌≡◌ {A = Answer Nak} (refused (22 ∷ [])) (capped (told (paper (FromSliceTooSmall found need))))
  above_window_lem h = sym (ap capped (told_is_short found need) ∙ rw (lt-ltb _ _ h))

  pub in_window : need ≤ window_length → ◌≡◌ {A = Answer Nak} (short found need) (capped (told (paper (FromSliceTooSmall found need))))
  in_window h = sym (ap capped (told_is_short found need) ∙ rw (le-ltb _ _ h))

-- ---- of the window

take_least : (w : List ℕ) (i : ℕ) → take (min i (length w)) w ≡ take i w
take_least w i = go (ltb (length w) i) refl
  where
    go : (c : Bool) → ltb (length w) i ≡ c → take (min i (length w)) w ≡ take i w
    go true e =
        let h : length w < i = ltb-true (length w) i e in
        let m : min i (length w) ≡ length w = omega arith in
        rw m (take_all (length w) w (le_refl _) ∙ sym (take_all i w (omega arith)))
    go false e =
        let h : i ≤ length w = ltb-false (length w) i e in
        let m : min i (length w) ≡ i = omega arith in
        rw m

pub window_says : (w : List ℕ) (filled end : ℕ) (o : Answer Nak) → length w ≡ window_length → end ≡ min filled (length w)
    → o ≡ run reading_nak (take end w) → capped o ≡ run receiving (take filled w)
window_says w filled end o k e q =
    let t : take end w ≡ take filled w = ap (λ (i : ℕ). take i w) e ∙ take_least w filled in
    let l : length (take filled w) ≤ window_length = omega (arith, length-take filled w) in
    ap capped (q ∙ ap (run reading_nak) t) ∙ sym (capped_reading (take filled w) l)
