-- The checksum of a PDU, which the standard calls its CRC (CCSDS 727.0-B-5, 4.1; document 01, `crc.rs`): the remainder by x^16 + x^12 + x^5 + 1 of the message, from the start value 0xFFFF, most significant bit first, nothing inverted at the end.
use Rattle.std.specs.Prelude.{ℕ, zero, suc, ◌*◌, ◌/◌, ◌%◌, List, [], ◌∷◌}
use Rattle.std.specs.Int.Bits.{bit_xor}

-- x^16 + x^12 + x^5 + 1, without its leading term
abbrev pub generator : ℕ
generator = 0x1021

-- the register before the first bit
abbrev pub start : ℕ
start = 0xFFFF

-- one bit: the register moves up by one place; the bit that leaves it at the top, 0 or 1, takes that many times the generator off
unfoldable pub bit_step : ℕ → ℕ
bit_step r = bit_xor (r * 2 % 65536) (r / 32768 % 2 * generator)

-- n bits
unfoldable pub bit_steps : ℕ → ℕ → ℕ
bit_steps zero r = r
bit_steps (suc n) r = bit_steps n (bit_step r)

-- one byte: it is added to the register's upper byte, and eight bits follow
unfoldable pub byte_step : ℕ → ℕ → ℕ
byte_step r b = bit_steps 8 (bit_xor r (b * 256))

-- the register after the bytes, from r
unfoldable pub checksum_from : ℕ → List ℕ → ℕ
checksum_from r [] = r
checksum_from r (b ∷ bs) = checksum_from (byte_step r b) bs

unfoldable pub checksum_of : List ℕ → ℕ
checksum_of bs = checksum_from start bs

-- entry i of the table by which the code goes a byte at a time (request C-06): the remainder that eight bits give for i in the upper byte
unfoldable pub entry : ℕ → ℕ
entry i = bit_steps 8 (i * 256)

-- the n entries from i on
unfoldable pub entries : ℕ → ℕ → List ℕ
entries zero i = []
entries (suc n) i = entry i ∷ entries n (suc i)
