-- Document 01's table, 'What is answered', with the refusals that document 02 adds: the number of each refusal, and then the numbers that it returns.
use Rattle.std.specs.Prelude.{ℕ, ◌-◌, List, [], ◌∷◌, length, get_or, take}
use Rattle.fields.specs.declared.refusal.Refusal.{Refusal}
use Rattle.fields.specs.declared.refusal.Refusal.TheVariants.{FromSliceTooSmall, CfdpVersionMissmatch, InvalidEntityLen, InvalidTransactionSeqNumLen, Checksum, DataFieldTooSmall, InvalidDirectiveType, WrongDirectiveType, InvalidStartOrEndOfScope, TooManySegmentRequests, ToSliceTooSmall, OddCount, SourceDestIdLenMissmatch, ValueTooLargeForWidth, TooSmallForPduHeader, InvalidConditionCode, InvalidAckedDirectiveCode, PairOutOfOrder, EntryOutOfOrder, TransactionsDiffer, NoRoom, NotADirective, PduTooLarge, RangesOutOfOrder, NoRequestFits, FieldCut, InvalidEntry, TooManyRanges, InvalidFaultLocation, FileSizeTooLarge, InvalidChecksumType, NameTooLong, DataFieldTooLarge}
use Rattle.fields.specs.declared.refusal.RefusalNumbers.{RefusalNumbers}

abbrev pub paper : Refusal → List ℕ
paper (FromSliceTooSmall found needed) = 1 ∷ found ∷ needed ∷ []
paper (CfdpVersionMissmatch version) = 2 ∷ version ∷ []
paper (InvalidEntityLen width) = 3 ∷ width ∷ []
paper (InvalidTransactionSeqNumLen width) = 4 ∷ width ∷ []
paper (Checksum last) = 5 ∷ last ∷ []
paper (DataFieldTooSmall stop needed) = 6 ∷ stop ∷ needed ∷ []
paper (InvalidDirectiveType code) = 7 ∷ code ∷ []
paper (WrongDirectiveType code) = 8 ∷ code ∷ []
paper (InvalidStartOrEndOfScope start end) = 9 ∷ start ∷ end ∷ []
paper (TooManySegmentRequests pairs most) = 10 ∷ pairs ∷ most ∷ []
paper (ToSliceTooSmall found needed) = 11 ∷ found ∷ needed ∷ []
paper (OddCount count) = 12 ∷ count ∷ []
paper (SourceDestIdLenMissmatch source destination) = 13 ∷ source ∷ destination ∷ []
paper (ValueTooLargeForWidth value width) = 14 ∷ value ∷ width ∷ []
paper TooSmallForPduHeader = 15 ∷ []
paper InvalidConditionCode = 16 ∷ []
paper InvalidAckedDirectiveCode = 17 ∷ []
paper (PairOutOfOrder file pair) = 18 ∷ file ∷ pair ∷ []
paper (EntryOutOfOrder at) = 18 ∷ at ∷ []
paper TransactionsDiffer = 19 ∷ []
paper NoRoom = 20 ∷ []
paper NotADirective = 21 ∷ []
paper PduTooLarge = 22 ∷ []
paper RangesOutOfOrder = 23 ∷ []
paper NoRequestFits = 24 ∷ []
paper (FieldCut at) = 25 ∷ at ∷ []
paper (InvalidEntry at) = 26 ∷ at ∷ []
paper TooManyRanges = 27 ∷ []
paper InvalidFaultLocation = 28 ∷ []
paper FileSizeTooLarge = 29 ∷ []
paper InvalidChecksumType = 30 ∷ []
paper NameTooLong = 31 ∷ []
paper DataFieldTooLarge = 32 ∷ []

-- the same as a record of fixed size: the number, how many values there are, and these; a value that there is not is 0
abbrev pub numbers_of : Refusal → RefusalNumbers
numbers_of r = record { number = get_or (paper r) 0 0; count = length (paper r) - 1; first = get_or (paper r) 1 0; second = get_or (paper r) 2 0 }

-- the record as a list again
abbrev pub listed : RefusalNumbers → List ℕ
listed n = n.number ∷ take n.count (n.first ∷ n.second ∷ [])
