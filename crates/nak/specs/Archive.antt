-- NAKs archived end to end without separators (document 02, C-14): such a file is read as one list of NAKs, and as no other.
use Rattle.std.specs.Prelude.{ℕ, ◌≡◌, List, [], ◌∷◌, ◌++◌, map, length, take, drop}
use Rattle.fields.specs.BigEndian.{Bytes}
use Rattle.fields.specs.Answer.{accepted}
use Rattle.fields.specs.Staged.{run}
use Rattle.header.specs.declared.PduHeader.{PduHeader}
use Rattle.header.specs.declared.flags.PduType.TheVariants.{FileDirective}
use Rattle.header.specs.declared.flags.Direction.TheVariants.{TowardsSender}
use Rattle.header.specs.declared.flags.TransmissionMode.TheVariants.{Acknowledged}
use Rattle.header.specs.declared.flags.CrcFlag.TheVariants.{NoCrc}
use Rattle.header.specs.declared.flags.LargeFileFlag.{LargeFileFlag}
use Rattle.header.specs.declared.flags.LargeFileFlag.TheVariants.{Normal}
use Rattle.header.specs.declared.flags.SegmentationControl.TheVariants.{NoRecordBoundaryPreservation}
use Rattle.header.specs.declared.flags.SegmentMetadataFlag.TheVariants.{NotPresent}
use Rattle.header.specs.declared.pdu.PduWritten.{PduWritten}
use Rattle.header.specs.Header.{pdu_length}
use Rattle.header.specs.Size.{size_width}
use Rattle.nak.specs.declared.Nak.{Nak}
use Rattle.nak.specs.declared.reserve.ReservedNak.{ReservedNak}
use Rattle.nak.specs.Reading.{reading_nak}
use Rattle.nak.specs.Requests.{area_of, pairs_of}
use Rattle.nak.specs.Writing.{nak_bytes, writing_nak, nak_memory}
use Rattle.nak.specs.Reserving.{finishing, area_in, finished_memory}
use Rattle.nak.specs.Demands.{by_turns, Lent}
use Rattle.nak.specs.Cases.{N}

-- ---- what is archived

-- what a NAK holds: its header, with every flag, the length, and the identifiers with their widths; its scope; its pairs
pub record Contents : Type 0 where
  pub header : PduHeader
  pub start : ℕ
  pub end : ℕ
  pub pairs : List (ℕ × ℕ)

-- a NAK that the writer accepted, into some room: `file` is the list's kind, Normal or Large; with no list it is the header's own flag, and there are no numbers
pub record Archived : Type 0 where
  pub file : LargeFileFlag
  pub header : PduHeader
  pub start : ℕ
  pub end : ℕ
  pub numbers : List ℕ
  pub room : ℕ
  pub written : PduWritten
  pub scope : Lent 8 (start ∷ end ∷ [])
  pub lent : Lent (size_width file) numbers
  pub taken : writing_nak file header start end (length numbers) room ≡ accepted written

-- its bytes
abbrev pub bytes_of : Archived → List ℕ
bytes_of k = nak_bytes k.written.header k.start k.end k.numbers

-- the header as handed back, scope and pairs
abbrev pub contents_of : Archived → Contents
contents_of k = record { header = k.written.header; start = k.start; end = k.end; pairs = by_turns k.numbers }

-- bytes behind bytes, with nothing between them
abbrev pub end_to_end : List (List ℕ) → List ℕ
end_to_end [] = []
end_to_end (p ∷ ps) = p ++ end_to_end ps

abbrev pub archive : List Archived → List ℕ
archive ks = end_to_end (map bytes_of ks)

-- ---- the request

-- 'for NAKs that the writer accepts, no written PDU is a proper beginning of another': where one begins another, nothing is left behind it
abbrev pub NoBeginning : Type 0
NoBeginning = (j k : Archived) (t : List ℕ) → bytes_of k ≡ bytes_of j ++ t → t ≡ []

-- 'two lists of NAKs written end to end give equal bytes only if the lists agree in length and in each NAK's header as handed back (identifiers with their widths), scope and pairs'
abbrev pub OneList : Type 0
OneList = (js ks : List Archived) → archive js ≡ archive ks → (length js ≡ length ks) × (map contents_of js ≡ map contents_of ks)

-- and if they do: what a NAK holds leaves nothing of its bytes open
abbrev pub SameBytes : Type 0
SameBytes = (js ks : List Archived) → map contents_of js ≡ map contents_of ks → archive js ≡ archive ks

-- ---- an archive as it is read

-- what the NAK n holds that was read from the bytes s
abbrev pub contents_in : List ℕ → Nak → Contents
contents_in s n = record { header = n.header; start = n.start; end = n.end; pairs = pairs_of n.header.file (area_of n s) }

-- the reader accepts a NAK at the front of s, it holds c, and from its P the bytes go on
pub record Front (s : List ℕ) (c : Contents) (GoesOn : List ℕ → Type 0) : Type 0 where
  pub nak : Nak
  pub read : run reading_nak s ≡ accepted nak
  pub holds : contents_in s nak ≡ c
  pub rest : GoesOn (drop (pdu_length nak.header) s)

-- bytes that are read as those NAKs, one off the front after the other, with nothing behind the last
abbrev pub ReadAs : List Contents → List ℕ → Type 0
ReadAs [] s = s ≡ []
ReadAs (c ∷ cs) s = Front s c (ReadAs cs)

-- an archive is read as what was archived ..
abbrev pub ArchiveReadsBack : Type 0
ArchiveReadsBack = (ks : List Archived) → ReadAs (map contents_of ks) (archive ks)

-- .. and no bytes, whoever wrote them, are read as two lists
abbrev pub OneReading : Type 0
OneReading = (cs ds : List Contents) (s : List ℕ) → ReadAs cs s → ReadAs ds s → cs ≡ ds

-- ---- the same of every way to cut a file, however it was found

-- bytes that the reader takes for one NAK, whoever wrote it, with nothing behind its P
pub record Whole (p : List ℕ) : Type 0 where
  pub nak : Nak
  pub read : run reading_nak p ≡ accepted nak
  pub ends : length p ≡ pdu_length nak.header

abbrev pub AllWhole : List (List ℕ) → Type 0
AllWhole [] = Unit {0}
AllWhole (p ∷ ps) = Whole p × AllWhole ps

abbrev pub ArchivedIsWhole : Type 0
ArchivedIsWhole = (k : Archived) → Whole (bytes_of k)

-- none is a proper beginning of another
abbrev pub NoWholeBeginning : Type 0
NoWholeBeginning = (p q t : List ℕ) → Whole p → Whole q → q ≡ p ++ t → t ≡ []

-- and bytes are cut into such in at most one way
abbrev pub OneCut : Type 0
OneCut = (ps qs : List (List ℕ)) → AllWhole ps → AllWhole qs → end_to_end ps ≡ end_to_end qs → ps ≡ qs

-- ---- those NAKs are the code's

-- the first n bytes of the buffer b are those of a NAK that the writer accepted, and it holds c
pub record Left (b : List ℕ) (n : ℕ) (c : Contents) : Type 0 where
  pub nak : Archived
  pub contents : contents_of nak ≡ c
  pub bytes : take n b ≡ bytes_of nak

-- the buffer that the writer leaves, at each of its three entry points: with the header handed back, the scope and the pairs that it was given
abbrev pub WriterLeaves : Type 0
WriterLeaves =
    (file : LargeFileFlag) (h : PduHeader) (start end : ℕ) (numbers s : List ℕ) (w : PduWritten) → Lent 8 (start ∷ end ∷ []) → Lent (size_width file) numbers
    → writing_nak file h start end (length numbers) (length s) ≡ accepted w
    → Left (nak_memory file h start end numbers s) w.length (record { header = w.header; start = start; end = end; pairs = by_turns numbers })

-- and the one that finishing leaves, whatever bytes the caller filled in: with the pairs that these are
abbrev pub FinishLeaves : Type 0
FinishLeaves =
    (r : ReservedNak) (start end : ℕ) (s : List ℕ) (w : PduWritten) → Lent 8 (start ∷ end ∷ []) → Bytes s → finishing r start end (length s) ≡ accepted w
    → Left (finished_memory r start end s) w.length (record { header = w.header; start = start; end = end; pairs = pairs_of w.header.file (area_in w.header s) })

-- ---- and there are such

-- what document 01's N holds: 1 2 3, width 1, acknowledged, no checksum, 17 bytes of data; scope 0, 1000; the pair 100, 200
abbrev pub header_of_n : PduHeader
header_of_n =
    record {
      kind = FileDirective;
      direction = TowardsSender;
      mode = Acknowledged;
      crc = NoCrc;
      file = Normal;
      length = 17;
      control = NoRecordBoundaryPreservation;
      width = 1;
      metadata = NotPresent;
      source = record { 0 = 1 };
      sequence = record { 0 = record { width = 1; value = 2 } };
      destination = record { 0 = 3 };
    }

-- N is the bytes of a NAK that the writer accepted, and that is what it holds
abbrev pub NIsArchived : Type 0
NIsArchived = Left N (length N) (record { header = header_of_n; start = 0; end = 1000; pairs = (100, 200) ∷ [] })
