-- Laws of the checksum: it goes on over an append, it fits sixteen bits, what no step brings to the top goes up by itself, and the checksum's own two bytes behind a message leave zero.
-- Assumes nothing.
use mathlib.Core.Path.{◌≡◌, refl, sym, ap, ◌∙◌}
use mathlib.Core.List.{List, [], ◌∷◌, ◌++◌}
use Prim.Native.Nat.{ℕ, zero, suc, ◌+◌, ◌*◌, ◌/◌, ◌%◌, ◌^◌, ◌<◌, ◌≤◌}
use native.Mathlib.Nat.{div-add-mod', mul-one, mul_assoc, mul_comm, pow-suc, mul-le-mul_left, zero-add}
use native.Mathlib.Numerals.{add-one}
use native.Mathlib.Omega.{arith}
use lib.Pow.{pow_pos}
use lib.Bits.{bit_xor, xor_zero_l, xor_zero_r, xor_self, xor_lt, xor_shr, xor_mod}
use lib.Dec.{lit<}
use lib.ListN.{length, drop, get_or, drop_of_length-le}
use lib.Seq.{drop-cons}
use Rattle.fields.specs.Checksum.{generator, start, bit_step, bit_steps, byte_step, checksum_from, checksum_of}
use Rattle.fields.specs.BigEndian.{be_bytes}
use Rattle.fields.proofs.Xor.{xor_right_comm, xor_double, xor_upper}

-- ---- the loop over the bytes: what is left to do

pub checksum_turn : (r : ℕ) (s : List ℕ) (i : ℕ) → i < length s → checksum_from (byte_step r (get_or s i 0)) (drop (i + 1) s) ≡ checksum_from r (drop i s)
unfolding checksum_from
checksum_turn r s i h = rw (add-one, drop-cons s i 0)

pub checksum_done : (r : ℕ) (s : List ℕ) (i : ℕ) → length s ≤ i → checksum_from r (drop i s) ≡ r
unfolding checksum_from
checksum_done r s i h = rw drop_of_length-le

-- ---- append

pub checksum_append : (r : ℕ) (xs ys : List ℕ) → checksum_from r (xs ++ ys) ≡ checksum_from (checksum_from r xs) ys
unfolding checksum_from
checksum_append r [] ys = refl
checksum_append r (x ∷ xs) ys = checksum_append (byte_step r x) xs ys

-- ---- bound: after a step a register is below 2^16, whatever it was

bit_lt : (r : ℕ) → bit_step r < 2 ^ 16
unfolding bit_step
bit_lt r = xor_lt 16 (r * 2 % 65536) (r / 32768 % 2 * generator) (omega arith) (omega arith)

pub bits_lt : (n r : ℕ) → r < 2 ^ 16 → bit_steps n r < 2 ^ 16
unfolding bit_steps
bits_lt zero r h = h
bits_lt (suc n) r h = bits_lt n (bit_step r) (bit_lt r)

byte_lt : (r b : ℕ) → byte_step r b < 2 ^ 16
unfolding byte_step bit_steps
byte_lt r b = bits_lt 7 (bit_step (bit_xor r (b * 256))) (bit_lt (bit_xor r (b * 256)))

from_lt : (r : ℕ) (s : List ℕ) → r < 2 ^ 16 → checksum_from r s < 2 ^ 16
unfolding checksum_from
from_lt r [] h = h
from_lt r (b ∷ s) h = from_lt (byte_step r b) s (byte_lt r b)

pub checksum_lt : (s : List ℕ) → checksum_of s < 2 ^ 16
unfolding checksum_of
checksum_lt s = from_lt start s (lit< tt)

-- ---- a part of the register that no step brings to the top goes up by itself

bit_xor_lem : (x l : ℕ) → l < 32768 → bit_step (bit_xor x l) ≡ bit_xor (bit_step x) (l * 2)
unfolding bit_step
bit_xor_lem x l h =
    let z : l / 32768 ≡ 0 = omega arith in
    let m : l * 2 % 65536 ≡ l * 2 = omega arith in
    let top : bit_xor x l / 32768 ≡ x / 32768 = xor_shr x l 15 ∙ rw z (xor_zero_r (x / 32768)) in
    let dbl : bit_xor x l * 2 ≡ bit_xor (x * 2) (l * 2) = sym (xor_double x l) in
    let up : bit_xor x l * 2 % 65536 ≡ bit_xor (x * 2 % 65536) (l * 2) = rw dbl (xor_mod (x * 2) (l * 2) 16 ∙ rw m refl) in
    rw (top, up) (xor_right_comm (x * 2 % 65536) (l * 2) (x / 32768 % 2 * generator))

pub bits_xor : (n x l : ℕ) → l * 2 ^ n < 65536 → bit_steps n (bit_xor x l) ≡ bit_xor (bit_steps n x) (l * 2 ^ n)
unfolding bit_steps
bits_xor zero x l h = ap (bit_xor x) (sym (mul-one l))
bits_xor (suc n) x l h =
    let e : l * 2 ^ suc n ≡ l * 2 * 2 ^ n = rw pow-suc (simp (mul_assoc, mul_comm 2 (2 ^ n))) in
    let k : l * 2 * 2 ^ n < 65536 = rw e at h in
    let m : l * 2 * 1 ≤ l * 2 * 2 ^ n = mul-le-mul_left (l * 2) (pow_pos n) in
    rw (bit_xor_lem x l (omega arith)) (bits_xor n (bit_step x) (l * 2) k ∙ ap (bit_xor (bit_steps n (bit_step x))) (sym e))

-- ---- residue

zero_stays : bit_steps 8 0 ≡ 0
unfolding bit_step bit_steps
zero_stays = refl

-- eight steps of a number in the lower byte move it to the upper
low_byte : (r : ℕ) → r < 256 → bit_steps 8 r ≡ r * 256
low_byte r h =
    ap (bit_steps 8) (sym (xor_zero_l r)) ∙ bits_xor 8 0 r (omega arith) ∙ ap (λ (x : ℕ). bit_xor x (r * 256)) zero_stays ∙ xor_zero_l (r * 256)

-- the upper byte's own value takes it away
clears : (c : ℕ) → bit_xor c (c / 256 * 256) ≡ c % 256
clears c =
    ap (λ (x : ℕ). bit_xor x (c / 256 * 256)) (sym (div-add-mod' c 256))
    ∙ xor_upper (c / 256) (c / 256) (c % 256) (omega arith)
    ∙ ap (λ (x : ℕ). x * 256 + c % 256) (xor_self (c / 256)) ∙ zero-add (c % 256)

-- a register's own two bytes bring it to zero: the first clears the upper byte and moves the lower up, the second clears that
residue_from : (c : ℕ) → checksum_from c (c / 256 ∷ c % 256 ∷ []) ≡ 0
unfolding checksum_from byte_step
residue_from c =
    rw (clears c, low_byte (c % 256) (omega arith), xor_self (c % 256 * 256)) zero_stays

two_bytes : (c : ℕ) → c < 2 ^ 16 → be_bytes 2 c ≡ c / 256 ∷ c % 256 ∷ []
unfolding be_bytes
two_bytes c h = let e : c / 256 % 256 ≡ c / 256 = omega arith in rw e

-- a message followed by the two bytes of its checksum has the checksum zero
pub residue : (m : List ℕ) → checksum_of (m ++ be_bytes 2 (checksum_of m)) ≡ 0
unfolding checksum_of
residue m =
    checksum_append start m _
    ∙ ap (checksum_from (checksum_from start m)) (two_bytes (checksum_from start m) (from_lt start m (lit< tt)))
    ∙ residue_from (checksum_from start m)
