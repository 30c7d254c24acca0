-- What is proved of this layer, beside the demand that it meets.
use Rattle.std.specs.Prelude.{ℕ, ◌^◌, ◌<◌, ◌≡◌, true, List, [], ◌∷◌, ◌++◌, length}
use Rattle.fields.specs.BigEndian.{Bytes}
use Rattle.fields.specs.Answer.{accepted, refused}
use Rattle.fields.specs.Staged.{run}
use Rattle.fields.specs.Demand3.{Demand3}
use Rattle.header.specs.declared.PduHeader.{PduHeader}
use Rattle.header.specs.Header.{header_bytes}
use Rattle.header.specs.Judging.{judging}
use Rattle.header.specs.Reading.{reading_header}
use Rattle.header.specs.Writing.{writing_header, header_memory}
use Rattle.header.specs.Directive.{reading_own}
use Rattle.header.specs.Comparing.{same_header}

-- DEMAND 2: what is written, followed by anything, reads back as the same header
abbrev pub HeaderReadsBack : Type 0
HeaderReadsBack = (h : PduHeader) (room written : ℕ) (t : List ℕ) → h.length < 2 ^ 16 → writing_header h room ≡ accepted written → run reading_header (header_bytes h ++ t) ≡ accepted h

-- DEMAND 2: and so does the buffer that an accepted write left
abbrev pub MemoryReadsBack : Type 0
MemoryReadsBack = (h : PduHeader) (s : List ℕ) (written : ℕ) → h.length < 2 ^ 16 → writing_header h (length s) ≡ accepted written → run reading_header (header_memory h s) ≡ accepted h

-- DEMAND 2: a header that was read from bytes passes the judgement of a record
abbrev pub ReadIsSound : Type 0
ReadIsSound = (s : List ℕ) (h : PduHeader) → Bytes s → run reading_header s ≡ accepted h → judging h ≡ accepted h

-- C-02: a buffer of just the bytes that refusal 11 named is not refused with 11, it is written: who grows to them asks at most twice
abbrev pub NamedNeedIsEnough : Type 0
NamedNeedIsEnough = (h : PduHeader) (room found need : ℕ) → writing_header h room ≡ refused (11 ∷ found ∷ need ∷ []) → (found ≡ room) × (writing_header h need ≡ accepted need)

-- two headers that are the same share every flag, d, and the numbers of their identifiers
pub record SameFields (a b : PduHeader) : Type 0 where
  pub kind : a.kind ≡ b.kind
  pub direction : a.direction ≡ b.direction
  pub mode : a.mode ≡ b.mode
  pub crc : a.crc ≡ b.crc
  pub file : a.file ≡ b.file
  pub control : a.control ≡ b.control
  pub metadata : a.metadata ≡ b.metadata
  pub length : a.length ≡ b.length
  pub source : a.source.0 ≡ b.source.0
  pub sequence : a.sequence.0.value ≡ b.sequence.0.value
  pub destination : a.destination.0 ≡ b.destination.0

abbrev pub SameHeaderShares : Type 0
SameHeaderShares = (a b : PduHeader) → same_header a b ≡ true → SameFields a b

-- DEMAND 3: at most two refusals as short
abbrev pub HeaderDemand3 : Type 0
HeaderDemand3 = Demand3 (run reading_header) 2

-- DEMAND 3: of a directive PDU through its code, at most four
abbrev pub DirectiveDemand3 : Type 0
DirectiveDemand3 = (own : ℕ) → Demand3 (run (reading_own own)) 4
