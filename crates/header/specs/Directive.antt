-- Reading a directive PDU, PDU type 0, through its code (CCSDS 727.0-B-5, 5.1 and 5.2; documents 01 and 02): what the reader of every directive begins with.
use Rattle.std.specs.Prelude.{ℕ, ◌+◌, ◌-◌, List, [], ◌∷◌, eqb, ltb, get_or, take, drop}
use Rattle.fields.specs.Answer.{Test, when}
use Rattle.fields.specs.Staged.{Staged, accept, ◌>>=◌, ◌>>◌, bytes, test}
use Rattle.header.specs.declared.PduHeader.{PduHeader}
use Rattle.header.specs.declared.directive.DirectivePdu.{DirectivePdu}
use Rattle.header.specs.Flags.{pdu_type_bit}
use Rattle.header.specs.Header.{header_length, data_end}
use Rattle.header.specs.Reading.{reading_header}
use Rattle.header.specs.Verifying.{pdu_bytes}
use Rattle.header.specs.Code.{unknown_directive, wrong_directive}

-- 6: declared data short
abbrev pub data_short : ℕ → ℕ → Test
data_short stop needed = when (ltb stop needed) (6 ∷ stop ∷ needed ∷ [])

-- 21: not a directive (C-05)
abbrev pub not_a_directive : PduHeader → Test
not_a_directive h = when (eqb (pdu_type_bit h.kind) 1) (21 ∷ [])

-- the fewest bytes, header and all, that the Rust asks of the buffer and of the declared data
abbrev pub least_length : ℕ
least_length = 9

-- in the PDU p: the directive's code, the first byte behind the header
abbrev pub code_in : PduHeader → List ℕ → ℕ
code_in h p = get_or p (header_length h) 0

-- in the PDU p: its data, from the directive's code up to E
unfoldable pub content_of : PduHeader → List ℕ → List ℕ
content_of h p = take (data_end h - header_length h) (drop (header_length h) p)

-- a directive PDU: its header, and its data
pub record PduRead : Type 0 where
  pub header : PduHeader
  pub content : List ℕ

-- 'length below P (1, needs P); 5; length below 9 (1, needs 9); E below 9 (6, needs 9)'; 21 'after both tests against 9 and before E is
-- tested against h + 1'; 'E below h + 1 (6, needs h + 1); 7; 8', for the reader of the directive `own`
unfoldable pub reading_directive : ℕ → Staged PduRead
reading_directive own = do
  h ← reading_header
  p ← pdu_bytes h
  bytes least_length
  test (data_short (data_end h) least_length)
  test (not_a_directive h)
  test (data_short (data_end h) (header_length h + 1))
  test (unknown_directive (code_in h p))
  test (wrong_directive own (code_in h p))
  accept (record { header = h; content = content_of h p })

-- those; else the header, and E
unfoldable pub reading_own : ℕ → Staged DirectivePdu
reading_own own = do
  d ← reading_directive own
  accept (record { header = d.header; stop = data_end d.header })
