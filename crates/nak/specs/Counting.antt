-- Most requests for a packet size (document 01, and document 02's C-08), and that the writer accepts so many and no more.
use Rattle.std.specs.Prelude.{ℕ, ◌+◌, ◌-◌, ◌*◌, ◌/◌, ◌≤◌, ◌<◌, min, ◌≡◌, true, [], ◌∷◌, ◌++◌, ltb}
use Rattle.fields.specs.Answer.{Answer, accepted, Test, when, first_of}
use Rattle.header.specs.declared.PduHeader.{PduHeader}
use Rattle.header.specs.Header.{crc_length}
use Rattle.header.specs.Pdu.{directive_tests, handed_back}
use Rattle.header.specs.declared.pdu.PduWritten.{PduWritten}
use Rattle.nak.specs.Nak.{pair_size, area_start}
use Rattle.nak.specs.Writing.{most_pairs, filled, scope_fits, writing_nak}

-- h + 1 + F, plus 2 with CRC: a NAK with no pair
unfoldable pub least_packet : PduHeader → ℕ
least_packet h = area_start h + crc_length h.crc

-- 15: packet size below that
abbrev pub packet_too_small : PduHeader → ℕ → Test
packet_too_small h size = when (ltb size (least_packet h)) (15 ∷ [])

-- document 01's rule: 'the size less h + 1 + F (and 2 with CRC), divided by F, rounded down'
abbrev pub by_size : PduHeader → ℕ → ℕ
by_size h size = (size - least_packet h) / pair_size h.file

-- '3, 4, 14', since C-05 21, '15' (13 is given where a record is built, C-12); otherwise 'the smaller of that rule and 8,190 or 4,094'
unfoldable pub most_requests : PduHeader → ℕ → Answer ℕ
most_requests h size = first_of (directive_tests h ++ (packet_too_small h size ∷ [])) (min (by_size h size) (most_pairs h.file))

-- ---- what is proved of it

-- a NAK of m pairs, of the width that the header's flag names, as the writer hands it back
abbrev pub of_pairs : PduHeader → ℕ → PduWritten
of_pairs h m = handed_back (filled h.file m h)

-- in a buffer of that size, n pairs and every fewer are accepted by the writer, and no more
pub record JustFit (h : PduHeader) (start end size n : ℕ) : Type 0 where
  pub fit : (m : ℕ) → m ≤ n → writing_nak h.file h start end (2 * m) size ≡ accepted (of_pairs h m)
  pub more : (m : ℕ) (w : PduWritten) → n < m → writing_nak h.file h start end (2 * m) size ≡ accepted w → ⊥

-- 'this many are accepted by the writer in a buffer of the packet size, and one more is not, for scopes that fit and pairs of the width the header's flag names'
abbrev pub MostRequestsFit : Type 0
MostRequestsFit = (h : PduHeader) (start end size n : ℕ) → scope_fits h.file start end ≡ true → most_requests h size ≡ accepted n → JustFit h start end size n
