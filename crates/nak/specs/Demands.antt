-- What is proved of this layer, beside the demand that it meets.
use Rattle.std.specs.Prelude.{ℕ, ◌+◌, ◌-◌, ◌*◌, ◌/◌, ◌^◌, ◌≤◌, ◌<◌, ◌≡◌, true, List, [], ◌∷◌, ◌++◌, map, length, get_or, take, drop, Result, Ok, Err, None}
use Rattle.fields.specs.declared.refusal.Refusal.{Refusal}
use Rattle.fields.specs.Answer.{accepted, answer_of}
use Rattle.fields.specs.Staged.{run}
use Rattle.fields.specs.Demand3.{heard, Demand3, CodeDemand3}
use Rattle.header.specs.declared.PduHeader.{PduHeader}
use Rattle.header.specs.declared.flags.CrcFlag.{CrcFlag}
use Rattle.header.specs.declared.flags.LargeFileFlag.{LargeFileFlag}
use Rattle.header.specs.Header.{data_end}
use Rattle.header.specs.Demands.{SameFields}
use Rattle.nak.specs.declared.Nak.{Nak}
use Rattle.header.specs.declared.pdu.PduWritten.{PduWritten}
use Rattle.nak.specs.declared.reserve.ReservedNak.{ReservedNak}
use Rattle.header.specs.Size.{size_width}
use Rattle.nak.specs.Nak.{pair_size, area_start}
use Rattle.nak.specs.Reading.{reading_nak}
use Rattle.nak.specs.Requests.{area_of, pairs_of, pairs_left, next_request, walk}
use Rattle.nak.specs.Writing.{numbers_bytes, nak_bytes, data_length, most_pairs, judging_nak, writing_nak, nak_memory}
use Rattle.nak.specs.Reserving.{reserving, finishing, finished_memory}
use Rattle.nak.specs.Comparing.{comparing}
use Rattle.nak.specs.Cases.{Given, gives, starred}

-- ---- demand 2

-- the starred cases of document 01, proved together
abbrev pub StarredCases : Type 0
StarredCases = map (λ (c : Given × List ℕ). gives c.0) starred ≡ map (λ (c : Given × List ℕ). c.1) starred

-- an accepted NAK shows the bytes from h + 1 + F up to E of what was read, and as many whole pairs as it says
pub record Shows (s : List ℕ) (n : Nak) : Type 0 where
  pub from : n.area ≡ area_start n.header
  pub up_to : n.stop ≡ data_end n.header
  pub area : area_of n s ≡ take (n.stop - n.area) (drop n.area s)
  pub inside : n.stop ≤ length s
  pub count : length (pairs_of n.header.file (area_of n s)) ≡ n.count

abbrev pub AcceptedShows : Type 0
AcceptedShows = (s : List ℕ) (n : Nak) → run reading_nak s ≡ accepted n → Shows s n

-- walking the cursor from the start shows exactly the pairs of the area ..
abbrev pub WalkShowsPairs : Type 0
WalkShowsPairs = (area : List ℕ) (file : LargeFileFlag) (rounds : ℕ) → length area / pair_size file ≤ rounds → walk area file rounds 0 ≡ pairs_of file area

-- .. and then the end, for ever
abbrev pub EndForEver : Type 0
EndForEver = (area : List ℕ) (file : LargeFileFlag) (at more : ℕ) → next_request area file at ≡ None → next_request area file (at + more) ≡ None

-- the same of the thin reader as an iterator, of which each step shows the first of `pairs_left`: from the start these are exactly the pairs
-- of the area ..
abbrev pub IteratorShowsPairs : Type 0
IteratorShowsPairs = (area : List ℕ) (file : LargeFileFlag) → pairs_left area file 0 ≡ pairs_of file area

-- .. and where none is left, none is left behind it either
abbrev pub NoneForEver : Type 0
NoneForEver = (area : List ℕ) (file : LargeFileFlag) (at more : ℕ) → pairs_left area file at ≡ [] → pairs_left area file (at + more) ≡ []

-- numbers, start and end by turns, as pairs
abbrev pub by_turns : List ℕ → List (ℕ × ℕ)
by_turns [] = []
by_turns (a ∷ []) = []
by_turns (a ∷ b ∷ ns) = (a, b) ∷ by_turns ns

-- each lent number has at most w bytes
abbrev pub Lent : ℕ → List ℕ → Type 0
Lent w numbers = (i : ℕ) → get_or numbers i 0 < 256 ^ w

-- the NAK with that header and scope and so many pairs, as it is read
abbrev pub read_as : PduHeader → ℕ → ℕ → ℕ → Nak
read_as h start end n = record { header = h; start = start; end = end; area = area_start h; stop = data_end h; count = n }

pub record ReadsBack (h : PduHeader) (start end : ℕ) (numbers s : List ℕ) : Type 0 where
  pub read : run reading_nak s ≡ accepted (read_as h start end (length numbers / 2))
  pub area : area_of (read_as h start end (length numbers / 2)) s ≡ numbers_bytes (size_width h.file) numbers
  pub pairs : pairs_of h.file (area_of (read_as h start end (length numbers / 2)) s) ≡ by_turns numbers

-- 'At most 8,190 normal or 4,094 large pairs fit, with or without CRC': so many do, and one more does not
pub record MostFit (file : LargeFileFlag) (crc : CrcFlag) : Type 0 where
  pub fit : (n : ℕ) → n ≤ most_pairs file → data_length file crc n < 2 ^ 16
  pub more : (n : ℕ) → most_pairs file < n → 2 ^ 16 ≤ data_length file crc n

abbrev pub MostPairsFit : Type 0
MostPairsFit = (file : LargeFileFlag) (crc : CrcFlag) → MostFit file crc

-- an accepted write, followed by anything, reads as accepted, with the header handed back, the scope and exactly the pairs
abbrev pub WrittenReadsBack : Type 0
WrittenReadsBack =
    (file : LargeFileFlag) (h : PduHeader) (start end room : ℕ) (numbers t : List ℕ) (w : PduWritten) → Lent 8 (start ∷ end ∷ []) → Lent (size_width file) numbers
    → writing_nak file h start end (length numbers) room ≡ accepted w → ReadsBack w.header start end numbers (nak_bytes w.header start end numbers ++ t)

-- the same of the code's own answer: what reading answers to the buffer that writing left, and the pairs there
abbrev pub CodeReadsBack : Type 0
CodeReadsBack =
    (file : LargeFileFlag) (h : PduHeader) (start end : ℕ) (numbers s : List ℕ) (w : PduWritten) (r : Result Nak Refusal) → Lent 8 (start ∷ end ∷ []) → Lent (size_width file) numbers
    → writing_nak file h start end (length numbers) (length s) ≡ accepted w → answer_of r ≡ run reading_nak (nak_memory file h start end numbers s)
    → (r ≡ Ok (read_as w.header start end (length numbers / 2))) × (pairs_of w.header.file (area_of (read_as w.header start end (length numbers / 2)) (nak_memory file h start end numbers s)) ≡ by_turns numbers)

-- a reserved NAK whose area was filled with the pairs' bytes and finished is the written NAK: the same answer, the same bytes
pub record Written (h : PduHeader) (start end : ℕ) (numbers s : List ℕ) (r : ReservedNak) (w : PduWritten) : Type 0 where
  pub answer : writing_nak h.file h start end (length numbers) (length s) ≡ accepted w
  pub bytes : finished_memory r start end s ≡ nak_memory h.file h start end numbers s

abbrev pub FinishedIsWritten : Type 0
FinishedIsWritten =
    (h : PduHeader) (n room start end : ℕ) (numbers s : List ℕ) (r : ReservedNak) (w : PduWritten) → reserving h n room ≡ accepted r → length numbers ≡ 2 * n
    → take (r.stop - r.area) (drop r.area s) ≡ numbers_bytes (size_width h.file) numbers → finishing r start end (length s) ≡ accepted w
    → Written h start end numbers s r w

-- comparing says yes on what was just written, whatever follows it
abbrev pub ComparingSaysYes : Type 0
ComparingSaysYes =
    (file : LargeFileFlag) (h : PduHeader) (start end room : ℕ) (numbers t : List ℕ) (w : PduWritten) → Lent 8 (start ∷ end ∷ []) → Lent (size_width file) numbers
    → writing_nak file h start end (length numbers) room ≡ accepted w → comparing file h start end numbers (nak_bytes w.header start end numbers ++ t) ≡ accepted true

-- and yes means equal numbers: those of the header handed back, the scope, the pairs, and nothing behind them
pub record Equals (file : LargeFileFlag) (h : PduHeader) (start end : ℕ) (numbers s : List ℕ) : Type 0 where
  pub nak : Nak
  pub header : PduHeader
  pub read : run reading_nak s ≡ accepted nak
  pub judged : judging_nak file h start end (length numbers) ≡ accepted header
  pub fields : SameFields nak.header header
  pub first : nak.start ≡ start
  pub last : nak.end ≡ end
  pub pairs : pairs_of file (area_of nak s) ≡ by_turns numbers
  pub whole : length (area_of nak s) ≡ size_width file * length numbers

abbrev pub YesMeansEqual : Type 0
YesMeansEqual = (file : LargeFileFlag) (h : PduHeader) (start end : ℕ) (numbers s : List ℕ) → comparing file h start end numbers s ≡ accepted true → Equals file h start end numbers s

-- ---- demand 3

-- at most four refusals as short
abbrev pub NakDemand3 : Type 0
NakDemand3 = Demand3 (run reading_nak) 4

-- and four are heard of this stream: a normal header of width 1 and one data byte, and then zeros
abbrev pub FourAreHeard : Type 0
FourAreHeard = heard (run reading_nak) (λ i. get_or (0x28 ∷ 0x00 ∷ 0x01 ∷ []) i 0) 9 0 ≡ 4

-- the first three of its parts of the code's own answers
abbrev pub NakCodeDemand3 : Type 0
NakCodeDemand3 = CodeDemand3 (run reading_nak) answer_of Err
