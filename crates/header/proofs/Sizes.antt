-- File-size sensitive numbers: their width by the flag, and those that fit.
-- Assumes nothing.
use Prim.Native.Nat.{ℕ, ◌+◌, ◌-◌, ◌≤◌, ◌^◌, ◌<◌}
use mathlib.Core.Path.{◌≡◌, refl, sym, ap, ◌∙◌}
use mathlib.Core.Bool.{Bool, true, false}
use mathlib.Core.List.{List, [], ◌∷◌}
use native.Mathlib.Omega.{arith}
use lib.ListN.{length, take, drop}
use Rattle.fields.specs.Width.{fits_width}
use Rattle.fields.specs.BigEndian.{lies_in, be_at, be_put}
use Rattle.fields.proofs.BigEndian.{lies, read_none, at_number}
use Rattle.fields.proofs.Parts.{part_read}
use Rattle.fields.specs.Answer.{accepted, told, all_of}
use Rattle.fields.proofs.Judging.{told_is_refused}
use Rattle.fields.proofs.Width.{fits_lt, lt_fits}
use Rattle.header.specs.declared.flags.LargeFileFlag.{LargeFileFlag}
use Rattle.header.specs.declared.flags.LargeFileFlag.TheVariants.{Normal, Large}
use Rattle.header.specs.Size.{size_width, fits_size, size_too_large}

pub fits_is : (file : LargeFileFlag) (w v : ℕ) (r : Bool) → w ≡ size_width file → r ≡ fits_width w v → r ≡ fits_size file v
unfolding fits_size
fits_is file w v r p e = e ∙ ap (λ (n : ℕ). fits_width n v) p

-- a number at a place: none where it does not lie in the bytes, else that of a part of just its bytes
module _ (file f : LargeFileFlag) (pf : file ≡ f) (s : List ℕ) (at w : ℕ) (pw : w ≡ size_width f) (small : w ≤ 8) where
  pub size_nowhere : lies_in (length s) at w ≡ false → 0 ≡ be_at s at (size_width file)
  size_nowhere e = read_none s at w e ∙ ap (be_at s at) (pw ∙ sym (ap size_width pf))

  pub size_inside : lies_in (length s) at w ≡ true → at + w ≤ length s
  size_inside e = (lies (length s) at w e).within

  pub size_read : (r : ℕ) → lies_in (length s) at w ≡ true → r ≡ be_at (take (at + w - at) (drop at s)) 0 w → r ≡ be_at s at (size_width file)
  size_read r e q =
      q ∙ part_read s at w (at + w) refl small (size_inside e) ∙ sym (at_number s at w small (size_inside e)) ∙ ap (be_at s at) (pw ∙ sym (ap size_width pf))

pub put_is : (file f : LargeFileFlag) (s b : List ℕ) (at w v : ℕ) → file ≡ f → w ≡ size_width f → b ≡ be_put s at w v → b ≡ be_put s at (size_width file) v
put_is file f s b at w v p q e = e ∙ ap (λ (n : ℕ). be_put s at n v) (q ∙ sym (ap size_width p))

-- four or eight
pub size_low : (file : LargeFileFlag) → 4 ≤ size_width file
size_low Normal = omega arith
size_low Large = omega arith

pub size_high : (file : LargeFileFlag) → size_width file ≤ 8
size_high Normal = omega arith
size_high Large = omega arith

pub size_fits : (file : LargeFileFlag) (v : ℕ) → fits_size file v ≡ true → v < 256 ^ size_width file
unfolding fits_size
size_fits file v e = fits_lt (size_width file) v e

pub fits_size_lem : (file : LargeFileFlag) (v : ℕ) → v < 256 ^ size_width file → fits_size file v ≡ true
unfolding fits_size
fits_size_lem file v l = lt_fits (size_width file) v l

pub size_too_large_lem : (file : LargeFileFlag) (v : ℕ) → fits_size file v ≡ false → told (29 ∷ []) ≡ all_of (size_too_large file v ∷ [])
size_too_large_lem file v e = rw (told_is_refused 29 _ refl, e)

pub size_goes : (file : LargeFileFlag) (v : ℕ) → fits_size file v ≡ true → accepted tt ≡ all_of (size_too_large file v ∷ [])
size_goes file v e = rw e
