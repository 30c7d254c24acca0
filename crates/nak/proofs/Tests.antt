-- A NAK's own tests, 12, 9 and 10, and the length of its data: the answer at each exit, and what they accept. Once for both widths.
-- Assumes nothing.
use Prim.Native.Nat.{ℕ, ◌+◌, ◌*◌, ◌/◌, ◌%◌, ◌^◌, ◌≤◌, ◌<◌}
use mathlib.Core.Path.{◌≡◌, refl, sym}
use mathlib.Core.Bool.{true, false}
use mathlib.Core.List.{List, [], ◌∷◌, ◌++◌}
use native.Mathlib.Nat.{div-add-mod'}
use native.Mathlib.Omega.{arith}
use lib.Dec.{eqb}
use borrow.Author.Tests.{lt-ltb, le-ltb, ltb-false, eq-eqb, ne_eqb, eqb-true, not-false}
use Rattle.fields.specs.Answer.{accepted, told, Test, first_of, all_of}
use Rattle.fields.proofs.Judging.{Passed, judged_passed, all_passed, refused_on, refused_after, passed_after, told_is_refused}
use Rattle.header.specs.declared.flags.CrcFlag.{CrcFlag}
use Rattle.header.specs.declared.flags.LargeFileFlag.{LargeFileFlag}
use Rattle.header.specs.declared.flags.LargeFileFlag.TheVariants.{Normal, Large}
use Rattle.header.specs.Flags.{crc_bit}
use Rattle.header.specs.Size.{size_width, fits_size}
use Rattle.header.proofs.Comparing.{both_true}
use Rattle.header.proofs.Sizes.{size_fits, fits_size_lem}
use Rattle.nak.specs.Writing.{data_length, most_pairs, odd_count, scope_fits, scope_too_large, too_many, own_tests}
use Rattle.nak.specs.Reserving.{finish_tests}

-- ---- the scope

module _ (file : LargeFileFlag) (start end : ℕ) where
  module _ (p : file ≡ Normal) where
    pub scope_refused : scope_fits file start end ≡ false → told (9 ∷ start ∷ end ∷ []) ≡ all_of (scope_too_large file start end ∷ [])
    scope_refused e = rw (told_is_refused 9 _ refl, p, rw p at e)

    pub scope_normal : scope_fits file start end ≡ true → accepted tt ≡ all_of (scope_too_large file start end ∷ [])
    scope_normal e = rw (p, rw p at e)

pub scope_fits_lem : (file : LargeFileFlag) (start end : ℕ) → scope_fits file start end ≡ true → (start < 256 ^ size_width file) × (end < 256 ^ size_width file)
unfolding scope_fits
scope_fits_lem file start end e =
    let p = both_true (fits_size file start) (fits_size file end) e in
    (size_fits file start p.0, size_fits file end p.1)

-- of 64-bit numbers, what the test lets pass fits, and what fits passes
pub scope_passed : (file : LargeFileFlag) (start end : ℕ) → start < 256 ^ 8 → end < 256 ^ 8 → Passed (scope_too_large file start end ∷ [])
    → scope_fits file start end ≡ true
unfolding scope_fits
scope_passed Normal start end a b p = not-false _ p.0
scope_passed Large start end a b p = rw (fits_size_lem Large start a, fits_size_lem Large end b)

-- and so does every scope that ends no later
pub scope_below : (file : LargeFileFlag) (start end a b : ℕ) → scope_fits file start end ≡ true → a ≤ end → b ≤ end → scope_fits file a b ≡ true
unfolding scope_fits
scope_below file start end a b e l m =
    let k = scope_fits_lem file start end e in
    rw (fits_size_lem file a (omega (arith, k.1)), fits_size_lem file b (omega (arith, k.1)))

pub fits_passes : (file : LargeFileFlag) (start end : ℕ) → scope_fits file start end ≡ true → Passed (scope_too_large file start end ∷ [])
fits_passes Normal start end e = (rw e, tt)
fits_passes Large start end e = (refl, tt)

-- ---- the pairs

module _ (file : LargeFileFlag) (n most : ℕ) (pm : most ≡ most_pairs file) where
  pub many_pairs : most < n → told (10 ∷ n ∷ most ∷ []) ≡ all_of (too_many file n ∷ [])
  many_pairs l = rw (told_is_refused 10 _ refl, ← pm, lt-ltb _ _ l)

  pub few_pairs : n ≤ most → accepted tt ≡ all_of (too_many file n ∷ [])
  few_pairs l = rw (← pm, le-ltb _ _ l)

pub pairs_fit : (file : LargeFileFlag) (n : ℕ) → Passed (too_many file n ∷ []) → n ≤ most_pairs file
pairs_fit file n p = ltb-false _ _ p.0

-- ---- the data length: the scope and so many pairs have at most 65,528 bytes, and so d fits 16 bits

pub pairs_bytes : (file : LargeFileFlag) (n w : ℕ) → n ≤ most_pairs file → w ≡ size_width file → 2 * w + n * (2 * w) ≤ 65528
pairs_bytes Normal n w h e = rw e (omega arith)
pairs_bytes Large n w h e = rw e (omega arith)

pub data_is : (file : LargeFileFlag) (crc : CrcFlag) (n w b : ℕ) → w ≡ size_width file → b ≡ crc_bit crc → 1 + 2 * w + n * (2 * w) + 2 * b ≡ data_length file crc n
unfolding data_length
data_is file crc n w b p q = rw (p, q)

-- ---- the tests of a writer, one after the other

module _ {A : Type 0} (x : A) (file : LargeFileFlag) (start end count : ℕ) where
  abbrev odd : List Test
  odd = odd_count count ∷ []

  abbrev scope : List Test
  scope = scope_too_large file start end ∷ []

  abbrev many : List Test
  many = too_many file (count / 2) ∷ []

  pub odd_count_lem : (count % 2 ≡ 0 → ⊥) → told (12 ∷ count ∷ []) ≡ first_of (own_tests file start end count) x
  unfolding own_tests
  odd_count_lem n = rw (told_is_refused 12 _ refl, ne_eqb _ _ n)

  module _ (even : count % 2 ≡ 0) where
    passed_odd : Passed odd
    passed_odd = (rw (eq-eqb _ _ even), tt)

    pub bad_scope : (ns : List ℕ) → told ns ≡ all_of scope → told ns ≡ first_of (own_tests file start end count) x
    unfolding own_tests
    bad_scope ns e = refused_after odd (scope ++ many) passed_odd x x ns (refused_on ns scope many tt x e)

    module _ (fits : accepted tt ≡ all_of scope) where
      pub too_many_lem : (ns : List ℕ) → told ns ≡ all_of many → told ns ≡ first_of (own_tests file start end count) x
      unfolding own_tests
      too_many_lem ns e = refused_after odd (scope ++ many) passed_odd x x ns (refused_after scope many (judged_passed scope fits) x tt ns e)

      pub none_holds : accepted tt ≡ all_of many → accepted x ≡ first_of (own_tests file start end count) x
      unfolding own_tests
      none_holds e = passed_after odd (scope ++ many) passed_odd x ((judged_passed scope fits).0, judged_passed many e)

-- what they let pass
pub record OwnPassed (file : LargeFileFlag) (start end count : ℕ) : Type 0 where
  pub even : count ≡ 2 * (count / 2)
  pub scope : Passed (scope_too_large file start end ∷ [])
  pub fewer : count / 2 ≤ most_pairs file

pub own_passed : (file : LargeFileFlag) (start end count : ℕ) → Passed (own_tests file start end count) → OwnPassed file start end count
unfolding own_tests
own_passed file start end count p =
    record {
      even = omega (arith, eqb-true (count % 2) 0 (not-false (eqb (count % 2) 0) p.0), div-add-mod' count 2);
      scope = (p.1.0, tt);
      fewer = ltb-false _ _ p.1.1.0;
    }

pub own_pass : (file : LargeFileFlag) (start end count : ℕ) → count % 2 ≡ 0 → scope_fits file start end ≡ true → count / 2 ≤ most_pairs file
    → Passed (own_tests file start end count)
unfolding own_tests
own_pass file start end count even scope few = (rw (eq-eqb _ _ even), ((fits_passes file start end scope).0, (le-ltb _ _ few, tt)))

-- ---- the tests of reserving and of finishing

module _ {A : Type 0} (x : A) (file : LargeFileFlag) (n : ℕ) where
  pub reserve_refused : (ns : List ℕ) → told ns ≡ all_of (too_many file n ∷ []) → told ns ≡ first_of (too_many file n ∷ []) x
  reserve_refused ns e = refused_on ns (too_many file n ∷ []) [] tt x e

  pub reserve_passes : accepted tt ≡ all_of (too_many file n ∷ []) → accepted x ≡ first_of (too_many file n ∷ []) x
  reserve_passes e = sym (all_passed (too_many file n ∷ []) x (judged_passed (too_many file n ∷ []) e))

  module _ (start end : ℕ) where
    pub finish_refused : (ns : List ℕ) → told ns ≡ first_of (too_many file n ∷ []) x → told ns ≡ first_of (finish_tests file n start end) x
    unfolding finish_tests
    finish_refused ns e = refused_on ns (too_many file n ∷ []) (scope_too_large file start end ∷ []) x x e

    module _ (p : Passed (too_many file n ∷ [])) where
      pub finish_scope : (ns : List ℕ) → told ns ≡ all_of (scope_too_large file start end ∷ []) → told ns ≡ first_of (finish_tests file n start end) x
      unfolding finish_tests
      finish_scope ns e = refused_after (too_many file n ∷ []) (scope_too_large file start end ∷ []) p x tt ns e

      pub finish_passes : accepted tt ≡ all_of (scope_too_large file start end ∷ []) → accepted x ≡ first_of (finish_tests file n start end) x
      unfolding finish_tests
      finish_passes e = passed_after (too_many file n ∷ []) (scope_too_large file start end ∷ []) p x (judged_passed (scope_too_large file start end ∷ []) e)

pub finish_fits : (file : LargeFileFlag) (n start end : ℕ) → Passed (finish_tests file n start end)
    → (n ≤ most_pairs file) × Passed (scope_too_large file start end ∷ [])
unfolding finish_tests
finish_fits file n start end p = (ltb-false _ _ p.0, p.1)
