-- Verifying the length and the checksum of a PDU by its header, and the checksum that a writer stores.
use Rattle.std.specs.Prelude.{ℕ, ◌-◌, ◌&&◌, not, List, [], ◌∷◌, eqb, take}
use Rattle.fields.specs.BigEndian.{number_at, be_bytes, be_put}
use Rattle.fields.specs.Checksum.{checksum_of}
use Rattle.fields.specs.Answer.{Test, when}
use Rattle.fields.specs.Staged.{Staged, accept, ◌>>=◌, ◌>>◌, bytes, test, tests}
use Rattle.header.specs.declared.PduHeader.{PduHeader}
use Rattle.header.specs.declared.flags.CrcFlag.{CrcFlag}
use Rattle.header.specs.declared.flags.CrcFlag.TheVariants.{NoCrc, WithCrc}
use Rattle.header.specs.Flags.{crc_bit}
use Rattle.header.specs.Header.{pdu_length, checksum_width, data_end}
use Rattle.header.specs.Judging.{record_tests}

-- 5: checksum not zero: with the flag, the checksum over all P bytes is zero; the PDU's last 16 bits
abbrev pub wrong_checksum : PduHeader → List ℕ → Test
wrong_checksum h p = when (eqb (crc_bit h.crc) 1 && not (eqb (checksum_of p) 0)) (5 ∷ number_at p (pdu_length h - checksum_width) checksum_width ∷ [])

-- the bytes of the PDU: 'length below P (1, needs P); 5'
unfoldable pub pdu_bytes : PduHeader → Staged (List ℕ)
pdu_bytes h = do
  p ← bytes (pdu_length h)
  test (wrong_checksum h p)
  accept p

-- 3, 4, 14 (13 is given where a record is built, C-12), then those, else E
unfoldable pub verifying : PduHeader → Staged ℕ
verifying h = do
  tests (record_tests h)
  pdu_bytes h
  accept (data_end h)

-- ---- the writer's side: the checksum behind the first n bytes of a PDU, with the flag

-- the bytes that close a message
abbrev pub checksum_bytes : CrcFlag → List ℕ → List ℕ
checksum_bytes NoCrc m = []
checksum_bytes WithCrc m = be_bytes checksum_width (checksum_of m)

-- the buffer with the checksum of its first n bytes behind them; where it has no room for that, as it was
unfoldable pub crc_added : CrcFlag → ℕ → List ℕ → List ℕ
crc_added NoCrc n s = s
crc_added WithCrc n s = be_put s n checksum_width (checksum_of (take n s))
