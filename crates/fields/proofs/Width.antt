-- Laws of widths: there are four, and a value fits a width where the bytes above it are zero.
-- Assumes nothing.
use mathlib.Core.Path.{◌≡◌, refl, sym}
use mathlib.Core.Bool.{Bool, true, false, ◌||◌}
use Prim.Native.Nat.{ℕ, zero, suc, ◌+◌, ◌*◌, ◌/◌, ◌^◌, ◌≤◌, ◌<◌}
use native.Mathlib.Omega.{arith}
use native.Mathlib.Nat.{pow-suc, pow-le-pow_right, one-le-pow, div-eq_of_lt, div-lt_iff_lt-mul, one-mul, lt_of_not-le}
use native.Mathlib.Decide.{dec_le}
use lib.Pow.{pow-add}
use lib.Count.{ones}
use lib.Dec.{eqb, ltb}
use borrow.Author.Tests.{le-leb, lt-leb, le-ltb, lt-ltb, ltb-true, eq-eqb, ne_eqb}
use Rattle.fields.specs.Width.{is_width, fits_width}

-- ---- the four widths

pub record Small (w : ℕ) : Type 0 where
  pub positive : 1 ≤ w
  pub most : w ≤ 8

above_none : (w : ℕ) → 8 < w → is_width w ≡ true → ⊥
unfolding is_width
above_none w l e =
    let f : false ≡ true = rw (lt-leb w 8 l) at e in
    let z : ◌≡◌ {A = ℕ} 0 1 = cc in
    omega arith

zero_none : is_width 0 ≡ true → ⊥
unfolding is_width ones
zero_none e = let z : ◌≡◌ {A = ℕ} 0 1 = cc in omega arith

-- a width is at least 1 and at most 8
pub width_small : (w : ℕ) → is_width w ≡ true → Small w
width_small zero e = absurd (zero_none e)
width_small (suc w) e =
    elim (dec_le (suc w) 8) [
      | yes h ↦ record { positive = omega arith; most = h }
      | no k ↦ let l : 8 < suc w = lt_of_not-le k in absurd (above_none (suc w) l e)
    ]

-- the four comparisons
abbrev pub is_of_four : ℕ → Bool
is_of_four w = eqb w 1 || eqb w 2 || eqb w 4 || eqb w 8

counted : (w : ℕ) → w ≤ 8 → eqb (ones w) 1 ≡ is_of_four w
unfolding ones
counted zero h = refl
counted (suc zero) h = refl
counted (suc (suc zero)) h = refl
counted (suc (suc (suc zero))) h = refl
counted (suc (suc (suc (suc zero)))) h = refl
counted (suc (suc (suc (suc (suc zero))))) h = refl
counted (suc (suc (suc (suc (suc (suc zero)))))) h = refl
counted (suc (suc (suc (suc (suc (suc (suc zero))))))) h = refl
counted (suc (suc (suc (suc (suc (suc (suc (suc zero)))))))) h = refl
counted (suc (suc (suc (suc (suc (suc (suc (suc (suc w))))))))) h = absurd (omega arith)

above_four : (w : ℕ) → 8 < w → false ≡ is_of_four w
above_four w h = rw (ne_eqb w 1 (omega arith), ne_eqb w 2 (omega arith), ne_eqb w 4 (omega arith), ne_eqb w 8 (omega arith))

-- a number is a width exactly where it is 1, 2, 4 or 8
pub four_widths : (w : ℕ) → is_width w ≡ is_of_four w
unfolding is_width
four_widths w =
    elim (dec_le w 8) [
      | yes h ↦ rw (le-leb w 8 h) (counted w h)
      | no k ↦
          let l : 8 < w = lt_of_not-le k in
          rw (lt-leb w 8 l) (above_four w l)
    ]

-- ---- which values fit

pow_bytes : (w : ℕ) → 2 ^ (8 * w) ≡ 256 ^ w
pow_bytes zero = refl
pow_bytes (suc w) =
    let e : 8 * suc w ≡ 8 * w + 8 = omega arith in
    rw (e, pow-add 2 (8 * w) 8, pow-suc 256 w, pow_bytes w)

positive : (v n : ℕ) → 0 < n → n ≤ v → v / n ≡ 0 → ⊥
positive v n h l e =
    let k : v / n < 1 = omega arith in
    let m : v < 1 * n = (div-lt_iff_lt-mul h).0 k in
    omega (arith, one-mul n)

below : (v n : ℕ) → 0 < n → eqb (v / n) 0 ≡ ltb v n
below v n h =
    elim (dec_le n v) [
      | yes l ↦ rw (le-ltb v n l) (ne_eqb (v / n) 0 (positive v n h l))
      | no k ↦
          let l : v < n = lt_of_not-le k in
          rw (lt-ltb v n l) (eq-eqb (v / n) 0 (div-eq_of_lt l))
    ]

-- nothing is left above the w lowest bytes
pub fits_shift : (w v : ℕ) → eqb (v / 2 ^ (8 * w)) 0 ≡ fits_width w v
unfolding fits_width
fits_shift w v = rw pow_bytes (below v (256 ^ w) (one-le-pow w 256 (omega arith)))

-- a 64-bit value fits 8 bytes and more
pub fits_wide : (w v : ℕ) → 8 ≤ w → v < 2 ^ 64 → true ≡ fits_width w v
unfolding fits_width
fits_wide w v h k =
    let m : 256 ^ 8 ≤ 256 ^ w = pow-le-pow_right (omega arith) {i = 8} {j = w} h in
    sym (lt-ltb v (256 ^ w) (omega arith))

pub fits_lt : (w v : ℕ) → fits_width w v ≡ true → v < 256 ^ w
unfolding fits_width
fits_lt w v e = ltb-true v (256 ^ w) e

pub lt_fits : (w v : ℕ) → v < 256 ^ w → fits_width w v ≡ true
unfolding fits_width
lt_fits w v h = lt-ltb v (256 ^ w) h
