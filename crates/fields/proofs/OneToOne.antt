-- The table of refusals is one-to-one, and so is each answer that is read through it.
-- Assumes nothing.
use Prim.Native.Nat.{ℕ}
use mathlib.Core.Path.{◌≡◌, refl, sym, ap, ◌∙◌}
use mathlib.Core.Bool.{Bool, true, false, ◌&&◌}
use mathlib.Core.List.{List}
use lib.Dec.{eqb}
use lib.ListN.{length, get_or}
use Rattle.std.specs.Prelude.{if◌then◌else◌, Result, Ok, Err}
use Rattle.fields.specs.Answer.{Answer, accepted, short, refused, told, answer_of, OneAnswer}
use Rattle.fields.specs.Refusal.{paper, numbers_of, listed}
use Rattle.fields.specs.declared.refusal.Refusal.{Refusal}
use Rattle.fields.specs.declared.refusal.Refusal.TheVariants.{FromSliceTooSmall, CfdpVersionMissmatch, InvalidEntityLen, InvalidTransactionSeqNumLen, Checksum, DataFieldTooSmall, InvalidDirectiveType, WrongDirectiveType, InvalidStartOrEndOfScope, TooManySegmentRequests, ToSliceTooSmall, OddCount, SourceDestIdLenMissmatch, ValueTooLargeForWidth, TooSmallForPduHeader, InvalidConditionCode, InvalidAckedDirectiveCode, PairOutOfOrder, EntryOutOfOrder, TransactionsDiffer, NoRoom, NotADirective, PduTooLarge, RangesOutOfOrder, NoRequestFits, FieldCut, InvalidEntry, TooManyRanges, InvalidFaultLocation, FileSizeTooLarge, InvalidChecksumType, NameTooLong, DataFieldTooLarge}

-- what has a way back is one-to-one
pub one_to_one : {R S : Type 0} (f : R → S) (g : S → R) → ((r : R) → g (f r) ≡ r) → (a b : R) → f a ≡ f b → a ≡ b
one_to_one f g h a b e = sym (h a) ∙ ap g e ∙ h b

-- the refusal of a number and its values
unfoldable pub refusal_of : List ℕ → Refusal
refusal_of ns =
    if eqb (get_or ns 0 0) 1 then FromSliceTooSmall (get_or ns 1 0) (get_or ns 2 0)
    else if eqb (get_or ns 0 0) 2 then CfdpVersionMissmatch (get_or ns 1 0)
    else if eqb (get_or ns 0 0) 3 then InvalidEntityLen (get_or ns 1 0)
    else if eqb (get_or ns 0 0) 4 then InvalidTransactionSeqNumLen (get_or ns 1 0)
    else if eqb (get_or ns 0 0) 5 then Checksum (get_or ns 1 0)
    else if eqb (get_or ns 0 0) 6 then DataFieldTooSmall (get_or ns 1 0) (get_or ns 2 0)
    else if eqb (get_or ns 0 0) 7 then InvalidDirectiveType (get_or ns 1 0)
    else if eqb (get_or ns 0 0) 8 then WrongDirectiveType (get_or ns 1 0)
    else if eqb (get_or ns 0 0) 9 then InvalidStartOrEndOfScope (get_or ns 1 0) (get_or ns 2 0)
    else if eqb (get_or ns 0 0) 10 then TooManySegmentRequests (get_or ns 1 0) (get_or ns 2 0)
    else if eqb (get_or ns 0 0) 11 then ToSliceTooSmall (get_or ns 1 0) (get_or ns 2 0)
    else if eqb (get_or ns 0 0) 12 then OddCount (get_or ns 1 0)
    else if eqb (get_or ns 0 0) 13 then SourceDestIdLenMissmatch (get_or ns 1 0) (get_or ns 2 0)
    else if eqb (get_or ns 0 0) 14 then ValueTooLargeForWidth (get_or ns 1 0) (get_or ns 2 0)
    else if eqb (get_or ns 0 0) 15 then TooSmallForPduHeader
    else if eqb (get_or ns 0 0) 16 then InvalidConditionCode
    else if eqb (get_or ns 0 0) 17 then InvalidAckedDirectiveCode
    else if eqb (get_or ns 0 0) 18 && eqb (length ns) 3 then PairOutOfOrder (get_or ns 1 0) (get_or ns 2 0)
    else if eqb (get_or ns 0 0) 18 then EntryOutOfOrder (get_or ns 1 0)
    else if eqb (get_or ns 0 0) 19 then TransactionsDiffer
    else if eqb (get_or ns 0 0) 20 then NoRoom
    else if eqb (get_or ns 0 0) 21 then NotADirective
    else if eqb (get_or ns 0 0) 22 then PduTooLarge
    else if eqb (get_or ns 0 0) 23 then RangesOutOfOrder
    else if eqb (get_or ns 0 0) 24 then NoRequestFits
    else if eqb (get_or ns 0 0) 25 then FieldCut (get_or ns 1 0)
    else if eqb (get_or ns 0 0) 26 then InvalidEntry (get_or ns 1 0)
    else if eqb (get_or ns 0 0) 27 then TooManyRanges
    else if eqb (get_or ns 0 0) 28 then InvalidFaultLocation
    else if eqb (get_or ns 0 0) 29 then FileSizeTooLarge
    else if eqb (get_or ns 0 0) 30 then InvalidChecksumType
    else if eqb (get_or ns 0 0) 31 then NameTooLong
    else DataFieldTooLarge

back : (r : Refusal) → refusal_of (paper r) ≡ r
unfolding refusal_of
back (FromSliceTooSmall l n) = refl
back (CfdpVersionMissmatch v) = refl
back (InvalidEntityLen w) = refl
back (InvalidTransactionSeqNumLen w) = refl
back (Checksum c) = refl
back (DataFieldTooSmall e n) = refl
back (InvalidDirectiveType c) = refl
back (WrongDirectiveType c) = refl
back (InvalidStartOrEndOfScope a b) = refl
back (TooManySegmentRequests n m) = refl
back (ToSliceTooSmall l n) = refl
back (OddCount n) = refl
back (SourceDestIdLenMissmatch a b) = refl
back (ValueTooLargeForWidth v w) = refl
back TooSmallForPduHeader = refl
back InvalidConditionCode = refl
back InvalidAckedDirectiveCode = refl
back (PairOutOfOrder f p) = refl
back (EntryOutOfOrder a) = refl
back TransactionsDiffer = refl
back NoRoom = refl
back NotADirective = refl
back PduTooLarge = refl
back RangesOutOfOrder = refl
back NoRequestFits = refl
back (FieldCut a) = refl
back (InvalidEntry a) = refl
back TooManyRanges = refl
back InvalidFaultLocation = refl
back FileSizeTooLarge = refl
back InvalidChecksumType = refl
back NameTooLong = refl
back DataFieldTooLarge = refl

-- no two refusals have the same number and values
pub paper_one_to_one : (a b : Refusal) → paper a ≡ paper b → a ≡ b
paper_one_to_one = one_to_one paper refusal_of back

-- what is printed of a refusal is its number and values
pub numbers_paper : (r : Refusal) → listed (numbers_of r) ≡ paper r
numbers_paper (FromSliceTooSmall l n) = refl
numbers_paper (CfdpVersionMissmatch v) = refl
numbers_paper (InvalidEntityLen w) = refl
numbers_paper (InvalidTransactionSeqNumLen w) = refl
numbers_paper (Checksum c) = refl
numbers_paper (DataFieldTooSmall e n) = refl
numbers_paper (InvalidDirectiveType c) = refl
numbers_paper (WrongDirectiveType c) = refl
numbers_paper (InvalidStartOrEndOfScope a b) = refl
numbers_paper (TooManySegmentRequests n m) = refl
numbers_paper (ToSliceTooSmall l n) = refl
numbers_paper (OddCount n) = refl
numbers_paper (SourceDestIdLenMissmatch a b) = refl
numbers_paper (ValueTooLargeForWidth v w) = refl
numbers_paper TooSmallForPduHeader = refl
numbers_paper InvalidConditionCode = refl
numbers_paper InvalidAckedDirectiveCode = refl
numbers_paper (PairOutOfOrder f p) = refl
numbers_paper (EntryOutOfOrder a) = refl
numbers_paper TransactionsDiffer = refl
numbers_paper NoRoom = refl
numbers_paper NotADirective = refl
numbers_paper PduTooLarge = refl
numbers_paper RangesOutOfOrder = refl
numbers_paper NoRequestFits = refl
numbers_paper (FieldCut a) = refl
numbers_paper (InvalidEntry a) = refl
numbers_paper TooManyRanges = refl
numbers_paper InvalidFaultLocation = refl
numbers_paper FileSizeTooLarge = refl
numbers_paper InvalidChecksumType = refl
numbers_paper NameTooLong = refl
numbers_paper DataFieldTooLarge = refl

-- ---- an answer that is an enum of what is accepted and a refusal, back from document 01's terms

told_short : {A : Type 0} (ns : List ℕ) → eqb (get_or ns 0 0) 1 ≡ true → ◌≡◌ {A = Answer A} (told ns) (short (get_or ns 1 0) (get_or ns 2 0))
unfolding told
told_short ns e = rw e

told_other : {A : Type 0} (ns : List ℕ) → eqb (get_or ns 0 0) 1 ≡ false → ◌≡◌ {A = Answer A} (told ns) (refused ns)
unfolding told
told_other ns e = rw e

module _ {A R : Type 0} (yes : A → R) (no : Refusal → R) where
  abbrev pub answer_back : Answer A → R
  answer_back (accepted a) = yes a
  answer_back (short l n) = no (FromSliceTooSmall l n)
  answer_back (refused ns) = no (refusal_of ns)

  told_list : (ns : List ℕ) → answer_back (told ns) ≡ no (refusal_of ns)
  unfolding refusal_of
  told_list ns = go (eqb (get_or ns 0 0) 1) refl
    where
      go : (b : Bool) → eqb (get_or ns 0 0) 1 ≡ b → answer_back (told ns) ≡ no (refusal_of ns)
      go true e = ap answer_back (told_short ns e) ∙ rw e
      go false e = ap answer_back (told_other ns e)

  pub told_back : (r : Refusal) → answer_back (told (paper r)) ≡ no r
  told_back r = told_list (paper r) ∙ ap no (back r)

-- the answer leaves one result, whatever is accepted
module _ {A : Type 0} where
  result_back : (r : Result A Refusal) → answer_back Ok Err (answer_of r) ≡ r
  result_back (Ok a) = refl
  result_back (Err r) = told_back Ok Err r

pub one_answer : (A : Type 0) → OneAnswer A
one_answer A = one_to_one answer_of (answer_back Ok Err) result_back
