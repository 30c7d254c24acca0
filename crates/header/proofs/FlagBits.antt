-- The flags: each bit of bytes 0 and 3 comes back from their sum.
-- Assumes nothing.
use Prim.Native.Nat.{ℕ, ◌+◌, ◌*◌, ◌/◌, ◌%◌, ◌<◌}
use mathlib.Core.Path.{◌≡◌}
use native.Mathlib.Omega.{arith}

-- byte 0
module _ (t d m c f : ℕ) (ht : t < 2) (hd : d < 2) (hm : m < 2) (hc : c < 2) (hf : f < 2) where
  abbrev first : ℕ
  first = 1 * 32 + t * 16 + d * 8 + m * 4 + c * 2 + f

  pub first_lt : first < 256
  first_lt = omega arith

  pub first_version : first / 32 % 8 ≡ 1
  first_version = omega arith

  pub first_16 : first / 16 % 2 ≡ t
  first_16 = omega arith

  pub first_8 : first / 8 % 2 ≡ d
  first_8 = omega arith

  pub first_4 : first / 4 % 2 ≡ m
  first_4 = omega arith

  pub first_2 : first / 2 % 2 ≡ c
  first_2 = omega arith

  pub first_1 : first / 1 % 2 ≡ f
  first_1 = omega arith

-- byte 3, with the widths less one
module _ (g e m q : ℕ) (hg : g < 2) (he : e < 8) (hm : m < 2) (hq : q < 8) where
  abbrev fourth : ℕ
  fourth = g * 128 + e * 16 + m * 8 + q

  pub fourth_lt : fourth < 256
  fourth_lt = omega arith

  pub fourth_128 : fourth / 128 % 2 ≡ g
  fourth_128 = omega arith

  pub fourth_entity : fourth / 16 % 8 ≡ e
  fourth_entity = omega arith

  pub fourth_8 : fourth / 8 % 2 ≡ m
  fourth_8 = omega arith

  pub fourth_sequence : fourth % 8 ≡ q
  fourth_sequence = omega arith
