-- Answers as numbers: a refusal is shown by its number and values, what was accepted by 0 and its numbers.
-- Assumes nothing.
use Prim.Native.Nat.{ℕ, zero, suc, ◌≤◌}
use mathlib.Core.Path.{◌≡◌, refl, sym, ap, ◌∙◌}
use mathlib.Core.List.{List, [], ◌∷◌, ◌++◌}
use native.Mathlib.Omega.{arith}
use lib.ListN.{length, get_or, take}
use Rattle.fields.specs.declared.refusal.Refusal.{Refusal}
use Rattle.fields.specs.declared.refusal.RefusalNumbers.{RefusalNumbers}
use Rattle.fields.specs.Refusal.{paper, numbers_of}
use Rattle.fields.specs.Answer.{Answer, accepted, told}
use Rattle.fields.proofs.OneToOne.{numbers_paper}
use Rattle.fields.proofs.Judging.{told_cases}
use Rattle.header.specs.declared.PduHeader.{PduHeader}
use Rattle.header.specs.Flags.{pdu_type_bit, direction_bit, mode_bit, crc_bit, file_bit, control_bit, metadata_bit}
use Rattle.header.specs.Header.{header_length}
use Rattle.cfdp.specs.Shown.{padded, answer_size, shown, refusal_shown, header_numbers, read_header_numbers}

-- up to three numbers, and zeros behind them
few : (ns : List ℕ) → length ns ≤ 3 → padded answer_size ns ≡ padded answer_size (get_or ns 0 0 ∷ get_or ns 1 0 ∷ get_or ns 2 0 ∷ [])
few [] l = refl
few (a ∷ []) l = refl
few (a ∷ b ∷ []) l = refl
few (a ∷ b ∷ c ∷ []) l = refl
few (a ∷ b ∷ c ∷ d ∷ ns) l = absurd (omega arith)

-- no refusal has more than two values
take_two : (n a b : ℕ) → length (take n (a ∷ b ∷ [])) ≤ 2
take_two zero a b = omega arith
take_two (suc zero) a b = omega arith
take_two (suc (suc zero)) a b = omega arith
take_two (suc (suc (suc n))) a b = omega arith

paper_few : (r : Refusal) → length (paper r) ≤ 3
paper_few r = omega (arith, ap length (numbers_paper r), take_two (numbers_of r).count (numbers_of r).first (numbers_of r).second)

-- the numbers of a refusal, as the record of fixed size has them
pub refusal_numbers : (r : Refusal) (n : RefusalNumbers) → n ≡ numbers_of r → padded answer_size (n.number ∷ n.first ∷ n.second ∷ []) ≡ refusal_shown r
unfolding refusal_shown
refusal_numbers r n e =
    ap (λ (m : RefusalNumbers). padded answer_size (m.number ∷ m.first ∷ m.second ∷ [])) e ∙ sym (few (paper r) (paper_few r))

module _ {A : Type 0} (numbers : A → List ℕ) where
  told_shown : (ns : List ℕ) → length ns ≤ 3 → padded answer_size ns ≡ shown numbers (told ns)
  unfolding shown
  told_shown ns l =
      sym
      (told_cases (shown numbers) (padded answer_size ns) ns
      (λ one. sym (few ns l ∙ ap (λ (k : ℕ). padded answer_size (k ∷ get_or ns 1 0 ∷ get_or ns 2 0 ∷ [])) one)) refl)

  -- a refusal is shown by its number and values
  pub refused_shown : (r : Refusal) (o : Answer A) (out : List ℕ) → told (paper r) ≡ o → out ≡ refusal_shown r → out ≡ shown numbers o
  unfolding refusal_shown
  refused_shown r o out e p = p ∙ told_shown (paper r) (paper_few r) ∙ ap (shown numbers) e

  -- what was accepted is shown by 0 and its numbers
  pub accepted_shown : (a : A) (o : Answer A) (out : List ℕ) → accepted a ≡ o → out ≡ padded answer_size (0 ∷ numbers a) → out ≡ shown numbers o
  unfolding shown
  accepted_shown a o out e p = p ∙ ap (shown numbers) e

-- the header's numbers, bit by bit
pub header_numbers_lem : (h : PduHeader) (rest : List ℕ) (t d m c f g s : ℕ) → t ≡ pdu_type_bit h.kind → d ≡ direction_bit h.direction
    → m ≡ mode_bit h.mode → c ≡ crc_bit h.crc
    → f ≡ file_bit h.file → g ≡ control_bit h.control → s ≡ metadata_bit h.metadata
    → ◌≡◌ {A = List ℕ} (t ∷ d ∷ m ∷ c ∷ f ∷ g ∷ s ∷ h.length ∷ h.width ∷ h.source.0 ∷ h.sequence.0.width ∷ h.sequence.0.value ∷ h.width ∷ h.destination.0 ∷ rest) (header_numbers h ++ rest)
header_numbers_lem h rest t d m c f g s et ed em ec ef eg es = rw (et, ed, em, ec, ef, eg, es)

-- a header that was read is shown with its length
pub read_header_shown : (h : PduHeader) (n : ℕ) (o : Answer PduHeader) (out : List ℕ) → accepted h ≡ o → n ≡ header_length h
    → out ≡ padded answer_size (0 ∷ (header_numbers h ++ (n ∷ 0 ∷ 0 ∷ 0 ∷ 0 ∷ []))) → out ≡ shown read_header_numbers o
read_header_shown h n o out e l p = accepted_shown read_header_numbers h o out e (p ∙ ap (λ (k : ℕ). padded answer_size (0 ∷ (header_numbers h ++ (k ∷ [])))) l)
