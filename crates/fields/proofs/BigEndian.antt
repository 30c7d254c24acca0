-- Laws of big-endian numbers, once over the width: the length, there and back, what one byte more does, and chains of writes.
-- Assumes nothing.
use mathlib.Core.Path.{◌≡◌, refl, sym, ap, ap₂, ◌∙◌}
use mathlib.Core.Bool.{Bool, true, false, ◌&&◌, and-false}
use mathlib.Core.List.{List, [], ◌∷◌, ◌++◌, append_assoc, append-nil}
use Prim.Native.Nat.{ℕ, zero, suc, ◌+◌, ◌-◌, ◌*◌, ◌/◌, ◌%◌, ◌^◌, ◌<◌, ◌≤◌}
use native.Mathlib.Nat.{mul_assoc, sub-zero, mul_comm, mul-one, add-mul, add_assoc, div-add-mod', pow-suc, pow-le-pow_right, one-le-pow, div-lt_iff_lt-mul, add-suc, suc-add, add-zero, zero-add, lt_of_not-le, lt_of_lt_of_le}
use native.Mathlib.Decide.{dec_le}
use native.Mathlib.Numerals.{add-one}
use native.Mathlib.Omega.{arith}
use lib.Arith.{digits_lt, lt-one}
use lib.Dec.{leb}
use lib.ListN.{length, take, drop, set, get_or, length-append, length-take, length-drop, length-set, take-append-drop}
use lib.Seq.{drop-cons, append_snoc, take-set-le, drop-set-lt, get_or-set_same, take_at, drop_at, take-take, drop-drop, get_or-drop, sets, sets-eq, length-sets}
use borrow.Author.Tests.{le-leb, lt-leb, leb-true}
use Rattle.std.specs.Prelude.{if◌then◌else◌}
use Rattle.fields.specs.Width.{fits_width}
use Rattle.fields.proofs.Width.{lt_fits}
use Rattle.fields.specs.BigEndian.{Bytes, be_from, be_value, be_bytes, number_at, overwritten, lies_in, be_at, be_put}

-- ---- the bytes of a number

pub be_length : (w v : ℕ) → length (be_bytes w v) ≡ w
unfolding be_bytes
be_length zero v = refl
be_length (suc w) v = length-append (be_bytes w (v / 256)) (v % 256 ∷ []) ∙ add-one _ ∙ ap suc (be_length w (v / 256))

-- a byte is its own byte
pub one_byte : (v : ℕ) → v < 256 → be_bytes 1 v ≡ v ∷ []
unfolding be_bytes
one_byte v h = ap (λ (b : ℕ). b ∷ []) (omega arith)

-- two numbers side by side are one
pub be_beside : (m n a b : ℕ) → b < 256 ^ n → be_bytes (n + m) (a * 256 ^ n + b) ≡ be_bytes m a ++ be_bytes n b
unfolding be_bytes
be_beside m zero a b h =
    let z : b ≡ 0 = lt-one h in
    let e : a * 1 + b ≡ a = omega arith in
    rw (e, zero-add, append-nil)
be_beside m (suc n) a b h =
    let k : b < 256 ^ n * 256 = rw pow-suc at h in
    let x = a * 256 ^ n in
    let e : a * 256 ^ suc n ≡ x * 256 = rw (pow-suc, mul_assoc) in
    let q : (x * 256 + b) / 256 ≡ x + b / 256 = omega arith in
    let r : (x * 256 + b) % 256 ≡ b % 256 = omega arith in
    rw (e, suc-add, q, r, be_beside m n a (b / 256) ((div-lt_iff_lt-mul (omega arith)).1 k), append_assoc)

be_append : (v : ℕ) (xs ys : List ℕ) → be_from v (xs ++ ys) ≡ be_from (be_from v xs) ys
unfolding be_from
be_append v [] ys = refl
be_append v (x ∷ xs) ys = be_append (v * 256 + x) xs ys

-- a number that fits comes back
pub be_value_bytes : (w v : ℕ) → v < 256 ^ w → be_value (be_bytes w v) ≡ v
unfolding be_value be_from be_bytes
be_value_bytes zero v h = sym (lt-one h)
be_value_bytes (suc w) v h =
    let k : v < 256 ^ w * 256 = rw pow-suc at h in
    be_append 0 (be_bytes w (v / 256)) (v % 256 ∷ [])
    ∙ ap (λ (x : ℕ). x * 256 + v % 256) (be_value_bytes w (v / 256) ((div-lt_iff_lt-mul (omega arith)).1 k))
    ∙ div-add-mod' v 256

-- ---- the loop of a reader

-- with a byte more a number is below one more power of 256
pub grows : (i v b : ℕ) → v < 256 ^ i → b < 256 → v * 256 + b < 256 ^ (i + 1)
grows i v b l k = rw (add-one, pow-suc) (digits_lt l k)

-- a number of fewer than eight bytes has room for one more in 64 bits
pub room : (i v b : ℕ) → i < 8 → v < 256 ^ i → b < 256 → v * 256 + b < 2 ^ 64
room i v b h l k =
    let m : 256 ^ i ≤ 256 ^ 7 = pow-le-pow_right (omega arith) {i = i} {j = 7} (omega arith) in
    omega arith

pub read_start : (s : List ℕ) (at w : ℕ) → be_from 0 (take (w - 0) (drop (at + 0) s)) ≡ number_at s at w
unfolding number_at be_value
read_start s at w = rw (sub-zero, add-zero)

pub read_turn : (v : ℕ) (s : List ℕ) (at w i b : ℕ) → i < w → at + w ≤ length s → b ≡ get_or s (at + i) 0
    → be_from (v * 256 + b) (take (w - (i + 1)) (drop (at + (i + 1)) s)) ≡ be_from v (take (w - i) (drop (at + i) s))
unfolding be_from
read_turn v s at w i b h k p =
    let e : w - i ≡ suc (w - (i + 1)) = omega arith in
    let f : at + (i + 1) ≡ suc (at + i) = omega arith in
    let l : at + i < length s = omega arith in
    rw (e, f, p, drop-cons s (at + i) 0 l)

pub read_done : (v m : ℕ) (s : List ℕ) (at w i : ℕ) → w ≤ i → be_from v (take (w - i) (drop (at + i) s)) ≡ m → v ≡ m
unfolding be_from
read_done v m s at w i h e =
    let z : w - i ≡ 0 = omega arith in
    rw z at e

-- ---- bytes are below a power of 256

from_lt : (xs : List ℕ) (k v : ℕ) → Bytes xs → v < 256 ^ k → be_from v xs < 256 ^ (length xs + k)
unfolding be_from
from_lt [] k v h l = rw zero-add l
from_lt (x ∷ xs) k v h l =
    let g : v * 256 + x < 256 ^ suc k = rw pow-suc (digits_lt l (h 0)) in
    rw (suc-add, ← add-suc (length xs) k) (from_lt xs (suc k) (v * 256 + x) (λ i. h (suc i)) g)

be_lt : (xs : List ℕ) → Bytes xs → be_value xs < 256 ^ length xs
unfolding be_value
be_lt xs h = rw add-zero at (from_lt xs 0 0 h (omega arith))

pub bytes_take : (n : ℕ) (s : List ℕ) → Bytes s → Bytes (take n s)
bytes_take zero s h i = omega arith
bytes_take (suc n) [] h i = h i
bytes_take (suc n) (x ∷ s) h zero = h 0
bytes_take (suc n) (x ∷ s) h (suc i) = bytes_take n s (λ j. h (suc j)) i

pub bytes_drop : (n : ℕ) (s : List ℕ) → Bytes s → Bytes (drop n s)
bytes_drop n s h i = rw get_or-drop (h (n + i))

-- a number of w bytes fits w bytes
pub number_lt : (s : List ℕ) (at w : ℕ) → Bytes s → number_at s at w < 256 ^ w
unfolding number_at
number_lt s at w h =
    let p = be_lt (take w (drop at s)) (bytes_take w (drop at s) (bytes_drop at s h)) in
    let m : length (take w (drop at s)) ≤ w = omega (arith, length-take w (drop at s)) in
    lt_of_lt_of_le p (pow-le-pow_right (omega arith) {i = length (take w (drop at s))} {j = w} m)

-- ---- and their number has them as its bytes

value_cons : (x : ℕ) (xs : List ℕ) → be_value (x ∷ xs) ≡ be_from x xs
unfolding be_from be_value
value_cons x xs = ap (λ (n : ℕ). be_from n xs) (zero-add x)

from_value : (v : ℕ) (xs : List ℕ) → be_from v xs ≡ v * 256 ^ length xs + be_value xs
unfolding be_from be_value
from_value v [] = sym (add-zero (v * 1) ∙ mul-one v)
from_value v (x ∷ xs) =
    let P = 256 ^ length xs in
    let e : v * 256 * P ≡ v * 256 ^ suc (length xs) = rw (pow-suc, mul_comm P 256) (mul_assoc v 256 P) in
    from_value (v * 256 + x) xs
    ∙ ap (λ (n : ℕ). n + be_value xs) (add-mul (v * 256) x P ∙ ap (λ (n : ℕ). n + x * P) e)
    ∙ add_assoc (v * 256 ^ suc (length xs)) (x * P) (be_value xs)
    ∙ ap (λ (n : ℕ). v * 256 ^ suc (length xs) + n) (sym (from_value x xs) ∙ sym (value_cons x xs))

be_bytes_value : (xs : List ℕ) → Bytes xs → be_bytes (length xs) (be_value xs) ≡ xs
unfolding be_bytes
be_bytes_value [] h = refl
be_bytes_value (x ∷ xs) h =
    ap (be_bytes (suc (length xs))) (value_cons x xs ∙ from_value x xs)
    ∙ ap (λ (n : ℕ). be_bytes n (x * 256 ^ length xs + be_value xs)) (sym (add-one (length xs)))
    ∙ be_beside 1 (length xs) x (be_value xs) (be_lt xs (λ i. h (suc i)))
    ∙ ap₂ (λ (a b : List ℕ). a ++ b) (one_byte x (h 0)) (be_bytes_value xs (λ i. h (suc i)))

-- the bytes at a place are those of the number there
pub number_bytes : (s : List ℕ) (at w : ℕ) → Bytes s → at + w ≤ length s → be_bytes w (number_at s at w) ≡ take w (drop at s)
unfolding number_at
number_bytes s at w h k =
    let X = take w (drop at s) in
    let l : length X ≡ w = omega (arith, length-take w (drop at s), length-drop at s) in
    ap (λ (n : ℕ). be_bytes n (be_value X)) (sym l) ∙ be_bytes_value X (bytes_take w (drop at s) (bytes_drop at s h))

-- ---- the loop of a writer

put_less : (s : List ℕ) (at n v : ℕ) → at + n < length s → overwritten (set s (at + n) (v % 256)) at n (v / 256) ≡ overwritten s at (suc n) v
unfolding overwritten be_bytes
put_less s at n v h =
    let l : at + n < length (set s (at + n) (v % 256)) = rw length-set h in
    rw (
      take-set-le at s (at + n) (v % 256) (omega arith),
      drop-cons (set s (at + n) (v % 256)) (at + n) 0 l,
      get_or-set_same s (at + n) (v % 256) 0 h,
      drop-set-lt (suc (at + n)) s (at + n) (v % 256) (omega arith),
      add-suc at n,
      append_snoc (be_bytes n (v / 256)) (v % 256) (drop (suc (at + n)) s),
    )

-- the lowest byte is put, and then the others before it
pub put_turn : (s : List ℕ) (at n v : ℕ) → 0 < n → at + n ≤ length s → overwritten (set s (at + (n - 1)) (v % 256)) at (n - 1) (v / 256) ≡ overwritten s at n v
put_turn s at n v h k =
    let e : n ≡ suc (n - 1) = omega arith in
    put_less s at (n - 1) v (omega arith) ∙ ap (λ (m : ℕ). overwritten s at m v) (sym e)

pub put_done : (s : List ℕ) (at v : ℕ) → s ≡ overwritten s at 0 v
unfolding overwritten be_bytes
put_done s at v = rw add-zero (sym (take-append-drop at s))

-- ---- any place

pub power_some : (w : ℕ) → 0 < 256 ^ w
power_some w = one-le-pow w 256 (omega arith)

pub record Lies (n at w : ℕ) : Type 0 where
  pub most : w ≤ 8
  pub within : at + w ≤ n

pub lies : (n at w : ℕ) → lies_in n at w ≡ true → Lies n at w
unfolding lies_in
lies n at w e =
    elim (dec_le w 8) [
      | yes h ↦ record { most = h; within = leb-true (at + w) n (rw (le-leb w 8 h) at e) }
      | no g ↦
          let h : 8 < w = lt_of_not-le g in
          let f : false ≡ true = rw (lt-leb w 8 h) at e in
          let z : ◌≡◌ {A = ℕ} 0 1 = cc in
          absurd (omega arith)
    ]

lies_not : (n at w : ℕ) → n < at + w → lies_in n at w ≡ false
unfolding lies_in
lies_not n at w l = rw (lt-leb (at + w) n l) (and-false (leb w 8))

lies_in_lem : (n at w : ℕ) → w ≤ 8 → at + w ≤ n → lies_in n at w ≡ true
unfolding lies_in
lies_in_lem n at w h k = rw (le-leb w 8 h, le-leb (at + w) n k)

pub read_none : (s : List ℕ) (at w : ℕ) → lies_in (length s) at w ≡ false → 0 ≡ be_at s at w
unfolding be_at
read_none s at w e = rw e

pub read_some : (s : List ℕ) (at w : ℕ) → lies_in (length s) at w ≡ true → number_at s at w ≡ be_at s at w
unfolding be_at
read_some s at w e = rw e

pub put_nowhere : (s : List ℕ) (at w v : ℕ) → lies_in (length s) at w ≡ false → s ≡ be_put s at w v
unfolding be_put
put_nowhere s at w v e = rw e

pub put_beyond : (s : List ℕ) (at w v : ℕ) → length s < at + w → s ≡ be_put s at w v
put_beyond s at w v l = put_nowhere s at w v (lies_not (length s) at w l)

pub put_some : (s : List ℕ) (at w v : ℕ) → lies_in (length s) at w ≡ true → fits_width w v ≡ true → overwritten s at w v ≡ be_put s at w v
unfolding be_put
put_some s at w v e f = rw (e, f)

-- ---- for upper layers: a number that lies in the slice

-- reading it
pub at_number : (s : List ℕ) (at w : ℕ) → w ≤ 8 → at + w ≤ length s → be_at s at w ≡ number_at s at w
at_number s at w h k = sym (read_some s at w (lies_in_lem (length s) at w h k))

written : (pre s : List ℕ) (n w v : ℕ) → length pre ≡ n → overwritten (pre ++ drop n s) n w v ≡ (pre ++ be_bytes w v) ++ drop (n + w) s
unfolding overwritten
written pre s n w v e =
    rw (take_at pre (drop n s) n e, ← drop-drop w n (pre ++ drop n s), drop_at pre (drop n s) n e, drop-drop w n s, append_assoc)

-- and writing it, where it fits: behind what stands written so far, `pre`, and the rest as it was
pub then_put : (pre s : List ℕ) (n w v : ℕ) {b b' : List ℕ} → length pre ≡ n → w ≤ 8 → n + w ≤ length s → v < 256 ^ w → b ≡ pre ++ drop n s → b' ≡ be_put b n w v
    → b' ≡ (pre ++ be_bytes w v) ++ drop (n + w) s
then_put pre s n w v {b} {b'} l h k f p e =
    let m : length b ≡ length s = ap length p ∙ simp (length-append, length-drop) (omega arith) in
    e ∙ sym (put_some b n w v (lies_in_lem (length b) n w h (omega arith)) (lt_fits w v f)) ∙ ap (λ (x : List ℕ). overwritten x n w v) p ∙ written pre s n w v l

pub then_length : (pre : List ℕ) (n w v : ℕ) → length pre ≡ n → length (pre ++ be_bytes w v) ≡ n + w
then_length pre n w v l = simp (length-append, be_length, l)

-- no write changes a length
pub put_length : (s : List ℕ) (at w v : ℕ) → length (be_put s at w v) ≡ length s
unfolding be_put overwritten
put_length s at w v = go (lies_in (length s) at w) (fits_width w v) refl
  where
    go : (c d : Bool) → lies_in (length s) at w ≡ c → length (if c && d then take at s ++ (be_bytes w v ++ drop (at + w) s) else s) ≡ length s
    go true true e = let h = (lies (length s) at w e).within in simp (length-append, length-take, length-drop, be_length) (omega arith)
    go true false e = refl
    go false d e = refl

-- a number that was written comes back
pub number_back : (pre post : List ℕ) (n w v : ℕ) → length pre ≡ n → v < 256 ^ w → number_at (pre ++ (be_bytes w v ++ post)) n w ≡ v
unfolding number_at
number_back pre post n w v e h =
    rw (drop_at pre (be_bytes w v ++ post) n e, take_at (be_bytes w v) post w (be_length w v)) (be_value_bytes w v h)

-- and so does a byte, as the element that it is
pub byte_back : (pre post : List ℕ) (n v : ℕ) → length pre ≡ n → v < 256 → get_or (pre ++ (be_bytes 1 v ++ post)) n 0 ≡ v
byte_back pre post n v e h =
    ap (λ (i : ℕ). get_or (pre ++ (be_bytes 1 v ++ post)) i 0) (sym (add-zero n))
    ∙ sym (get_or-drop n (pre ++ (be_bytes 1 v ++ post)) 0 0)
    ∙ ap (λ (l : List ℕ). get_or l 0 0) (drop_at pre (be_bytes 1 v ++ post) n e ∙ ap (λ (l : List ℕ). l ++ post) (one_byte v h))

-- a part of the first n bytes is that part of all of them
pub part_take : (s : List ℕ) (n at w : ℕ) → at + w ≤ n → take w (drop at (take n s)) ≡ take w (drop at s)
part_take s n zero w h = take-take w n s (omega arith)
part_take s zero (suc at) w h = absurd (omega arith)
part_take [] (suc n) (suc at) w h = refl
part_take (x ∷ s) (suc n) (suc at) w h = part_take s n at w (omega arith)

-- a number within the first n bytes is the same in them alone
pub number_take : (s : List ℕ) (n at w : ℕ) → at + w ≤ n → number_at (take n s) at w ≡ number_at s at w
unfolding number_at
number_take s n at w h = ap be_value (part_take s n at w h)

-- and whatever follows, one within the bytes stays
pub number_append : (s t : List ℕ) (at w : ℕ) → at + w ≤ length s → number_at (s ++ t) at w ≡ number_at s at w
number_append s t at w h = sym (number_take (s ++ t) (length s) at w h) ∙ ap (λ (x : List ℕ). number_at x at w) (take_at s t (length s) refl)

-- a number behind a place is one of what stands there
pub number_behind : (s : List ℕ) (from at w : ℕ) → number_at (drop from s) at w ≡ number_at s (from + at) w
unfolding number_at
number_behind s from at w = ap (λ (x : List ℕ). be_value (take w x)) (drop-drop at from s)

-- a number at a place is the first of what stands there
pub number_drop : (s : List ℕ) (at w : ℕ) → number_at (drop at s) 0 w ≡ number_at s at w
unfolding number_at
number_drop s at w = refl

-- ---- runs of stores, one behind the other, with no condition on what stands there (`sets` of the library)

-- a number that lies in the slice and fits is such a run
pub put_sets : (s : List ℕ) (at w v : ℕ) → w ≤ 8 → at + w ≤ length s → v < 256 ^ w → be_put s at w v ≡ sets s at (be_bytes w v)
unfolding overwritten
put_sets s at w v h k f =
    let l : at + length (be_bytes w v) ≤ length s = omega (arith, be_length w v) in
    sym (put_some s at w v (lies_in_lem (length s) at w h k) (lt_fits w v f))
    ∙ sym (sets-eq (be_bytes w v) s at l ∙ rw (be_length w v) (append_assoc (take at s) (be_bytes w v) (drop (at + w) s)))

-- so is a number of no bytes, whatever it is: none
pub put_empty : (s : List ℕ) (at v : ℕ) → be_put s at 0 v ≡ sets s at (be_bytes 0 v)
unfolding be_put overwritten be_bytes
put_empty s at v = go (lies_in (length s) at 0 && fits_width 0 v)
  where
    go : (c : Bool) → (if c then take at s ++ ([] ++ drop (at + 0) s) else s) ≡ s
    go true = rw add-zero (take-append-drop at s)
    go false = refl

-- two runs are one
pub sets_append : (xs ys l : List ℕ) (at : ℕ) → sets l at (xs ++ ys) ≡ sets (sets l at xs) (at + length xs) ys
sets_append [] ys l at = rw add-zero
sets_append (x ∷ xs) ys l at =
    sets_append xs ys (set l at x) (suc at) ∙ ap (λ (k : ℕ). sets (sets (set l at x) (suc at) xs) k ys) (omega arith)

-- a run behind what stands written so far
pub then_sets : (pre xs l : List ℕ) (n : ℕ) {b b' : List ℕ} → length pre ≡ n → b ≡ sets l 0 pre → b' ≡ sets b n xs → b' ≡ sets l 0 (pre ++ xs)
then_sets pre xs l n {b} {b'} e p q =
    q ∙ ap₂ (λ (x : List ℕ) (j : ℕ). sets x j xs) p (sym e ∙ sym (zero-add (length pre))) ∙ sym (sets_append pre xs l 0)

-- a number behind bytes that were stored: both are stored
pub put_behind : (s pre : List ℕ) (at n w v : ℕ) {b b' : List ℕ} → at + length pre ≡ n → w ≤ 8 → n + w ≤ length s → v < 256 ^ w → b ≡ sets s at pre
    → b' ≡ be_put b n w v → b' ≡ sets s at (pre ++ be_bytes w v)
put_behind s pre at n w v {b} p small room f e q =
    let l : length b ≡ length s = ap length e ∙ length-sets s at pre in
    q ∙ put_sets b n w v small (omega arith) f ∙ ap₂ (λ (x : List ℕ) (j : ℕ). sets x j (be_bytes w v)) e (sym p) ∙ sym (sets_append pre (be_bytes w v) s at)
