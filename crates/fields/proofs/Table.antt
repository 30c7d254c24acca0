-- The checksum a byte at a time: the eight bits of a byte are one entry of the table, since what stands in the register's lower byte goes up by itself.
-- Assumes nothing.
use mathlib.Core.Path.{◌≡◌, sym, ap, ◌∙◌}
use mathlib.Core.List.{List}
use Prim.Native.Nat.{ℕ, zero, suc, ◌+◌, ◌*◌, ◌/◌, ◌%◌, ◌^◌, ◌<◌}
use native.Mathlib.Nat.{div-add-mod', add-zero, zero-add}
use native.Mathlib.Omega.{arith}
use lib.Bits.{bit_xor, xor_lt, xor_shifted}
use lib.ListN.{length, drop, get_or}
use Rattle.fields.specs.Checksum.{bit_steps, byte_step, checksum_from, entry, entries}
use Rattle.fields.proofs.Xor.{xor_upper}
use Rattle.fields.proofs.Checksum.{bits_lt, bits_xor, checksum_turn}

-- ---- the rule of the table, carried to each entry

entries_from : (n i k : ℕ) → k < n → get_or (entries n i) k 0 ≡ entry (i + k)
unfolding entries
entries_from zero i k h = absurd (omega arith)
entries_from (suc n) i zero h = ap entry (sym (add-zero i))
entries_from (suc n) i (suc k) h = entries_from n (suc i) k (omega arith) ∙ ap entry (omega arith)

pub entries_at : (t : List ℕ) (k : ℕ) → t ≡ entries 256 0 → k < 256 → get_or t k 0 ≡ entry k
entries_at t k p h = ap (λ (l : List ℕ). get_or l k 0) p ∙ entries_from 256 0 k h ∙ ap entry (zero-add k)

pub entries_lt : (t : List ℕ) (k : ℕ) → t ≡ entries 256 0 → k < 256 → get_or t k 0 < 2 ^ 16
unfolding entry
entries_lt t k p h = rw (entries_at t k p h) (bits_lt _ (k * 256) (omega arith))

-- ---- a byte

pub upper_lt : (e l : ℕ) → e < 2 ^ 16 → l < 256 → bit_xor (e / 256) l < 256
upper_lt e l h k = xor_lt 8 (e / 256) l (omega arith) k

-- the entry's upper byte takes the register's lower byte with it, and its lower byte is the lower byte from now on
pub by_entry : (u l b : ℕ) → l < 256 → byte_step (u * 256 + l) b ≡ bit_xor (entry (bit_xor u b) / 256) l * 256 + entry (bit_xor u b) % 256
unfolding byte_step entry
by_entry u l b h =
    let e = entry (bit_xor u b) in
    ap (bit_steps 8) (xor_upper u b l h ∙ sym (xor_shifted (bit_xor u b) 8 l h))
    ∙ bits_xor 8 (bit_xor u b * 256) l (omega arith)
    ∙ ap (λ (x : ℕ). bit_xor x (l * 256)) (sym (div-add-mod' e 256))
    ∙ xor_upper (e / 256) l (e % 256) (omega arith)

-- a turn of the loop: u and l are the register's bytes, e the entry that was looked up
pub table_turn : (u l : ℕ) (s : List ℕ) (i e : ℕ) → l < 256 → i < length s → e ≡ entry (bit_xor u (get_or s i 0))
    → checksum_from (bit_xor (e / 256) l * 256 + e % 256) (drop (i + 1) s) ≡ checksum_from (u * 256 + l) (drop i s)
table_turn u l s i e h k p =
    ap (λ (x : ℕ). checksum_from (bit_xor (x / 256) l * 256 + x % 256) (drop (i + 1) s)) p
    ∙ ap (λ (r : ℕ). checksum_from r (drop (i + 1) s)) (sym (by_entry u l (get_or s i 0) h))
    ∙ checksum_turn (u * 256 + l) s i k
