-- Writing a NAK (CCSDS 727.0-B-5, 5.2.6; document 01): its bytes, its refusals in their order, the answer, and the lent memory at exit.
use Rattle.std.specs.Prelude.{ℕ, ◌+◌, ◌*◌, ◌/◌, ◌%◌, Bool, false, ◌&&◌, not, List, [], ◌∷◌, ◌++◌, eqb, ltb, length, if◌then◌else◌}
use Rattle.fields.specs.BigEndian.{be_bytes}
use Rattle.fields.specs.Answer.{Answer, Test, when, first_of}
use Rattle.header.specs.declared.PduHeader.{PduHeader}
use Rattle.header.specs.declared.pdu.PduWritten.{PduWritten}
use Rattle.header.specs.declared.flags.Direction.TheVariants.{TowardsSender}
use Rattle.header.specs.declared.flags.CrcFlag.{CrcFlag}
use Rattle.header.specs.declared.flags.LargeFileFlag.{LargeFileFlag}
use Rattle.header.specs.declared.flags.LargeFileFlag.TheVariants.{Normal, Large}
use Rattle.header.specs.Header.{crc_length, with_direction, with_file_flag, with_length}
use Rattle.header.specs.Size.{size_width, fits_size}
use Rattle.header.specs.Pdu.{pdu_over, directive_tests, writing_pdu, pdu_memory}
use Rattle.nak.specs.Nak.{nak_code, pair_size}

-- ---- the bytes

-- numbers, start and end by turns, of w bytes each
unfoldable pub numbers_bytes : ℕ → List ℕ → List ℕ
numbers_bytes w [] = []
numbers_bytes w (v ∷ vs) = be_bytes w v ++ numbers_bytes w vs

-- two of them in memory that has just their bytes; else it stays
unfoldable pub pair_put : ℕ → List ℕ → List ℕ → List ℕ
pair_put w ns s = if eqb (length s) (2 * w) && eqb (length ns) 2 then numbers_bytes w ns else s

-- directive code 8, start of scope, end of scope
unfoldable pub scope_bytes : LargeFileFlag → ℕ → ℕ → List ℕ
scope_bytes file start end = be_bytes 1 nak_code ++ be_bytes (size_width file) start ++ be_bytes (size_width file) end

-- the data: those, then the request area
unfoldable pub nak_data : LargeFileFlag → ℕ → ℕ → List ℕ → List ℕ
nak_data file start end area = scope_bytes file start end ++ area

-- the NAK of such a header: over a request area, and over numbers
unfoldable pub nak_over : PduHeader → ℕ → ℕ → List ℕ → List ℕ
nak_over h start end area = pdu_over h (nak_data h.file start end area)

unfoldable pub nak_bytes : PduHeader → ℕ → ℕ → List ℕ → List ℕ
nak_bytes h start end numbers = nak_over h start end (numbers_bytes (size_width h.file) numbers)

-- ---- the header that is handed back

-- d = 1 + F + nF, plus 2 with CRC
unfoldable pub data_length : LargeFileFlag → CrcFlag → ℕ → ℕ
data_length file crc n = 1 + pair_size file + n * pair_size file + crc_length crc

-- 'At most 8,190 normal or 4,094 large pairs fit'
abbrev pub most_normal : ℕ
most_normal = 8190

abbrev pub most_large : ℕ
most_large = 4094

abbrev pub most_pairs : LargeFileFlag → ℕ
most_pairs Normal = most_normal
most_pairs Large = most_large

-- direction 1, the file flag of the list, the length of n pairs
unfoldable pub filled : LargeFileFlag → ℕ → PduHeader → PduHeader
filled file n h = with_length (data_length file h.crc n) (with_file_flag file (with_direction TowardsSender h))

-- ---- the refusals

-- 12: odd count of lent numbers
abbrev pub odd_count : ℕ → Test
odd_count count = when (not (eqb (count % 2) 0)) (12 ∷ count ∷ [])

-- both ends of the scope fit the width of an offset
unfoldable pub scope_fits : LargeFileFlag → ℕ → ℕ → Bool
scope_fits file start end = fits_size file start && fits_size file end

-- 9: scope above 2^32 - 1 in a normal NAK
abbrev pub scope_too_large : LargeFileFlag → ℕ → ℕ → Test
scope_too_large Normal start end = when (not (scope_fits Normal start end)) (9 ∷ start ∷ end ∷ [])
scope_too_large Large start end = when false []

-- 10: more pairs than fit
abbrev pub too_many : LargeFileFlag → ℕ → Test
too_many file n = when (ltb (most_pairs file) n) (10 ∷ n ∷ most_pairs file ∷ [])

-- '12; 9; 10'
unfoldable pub own_tests : LargeFileFlag → ℕ → ℕ → ℕ → List Test
own_tests file start end count = odd_count count ∷ scope_too_large file start end ∷ too_many file (count / 2) ∷ []

-- ---- writing

-- '3; 4; 14 for source, sequence, destination', since C-05 21, then those, 11; else the header handed back, and the written length
unfoldable pub writing_nak : LargeFileFlag → PduHeader → ℕ → ℕ → ℕ → ℕ → Answer PduWritten
writing_nak file h start end count room = writing_pdu (filled file (count / 2) h) (own_tests file start end count) room

-- the buffer at exit: the NAK's bytes in front, the rest as it was; a refusal changes nothing
unfoldable pub nak_memory : LargeFileFlag → PduHeader → ℕ → ℕ → List ℕ → List ℕ → List ℕ
nak_memory file h start end numbers s =
    pdu_memory (filled file (length numbers / 2) h) (own_tests file start end (length numbers)) (nak_data file start end (numbers_bytes (size_width file) numbers)) s

-- the judgement but for the room, with the header that is handed back
unfoldable pub judging_nak : LargeFileFlag → PduHeader → ℕ → ℕ → ℕ → Answer PduHeader
judging_nak file h start end count = first_of (directive_tests h ++ own_tests file start end count) (filled file (count / 2) h)
