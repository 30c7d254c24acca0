-- The request area and the cursor, once for both file flags: walking from the start shows exactly the pairs, and then the end for ever.
-- Assumes nothing.
use Prim.Native.Nat.{ℕ, zero, suc, ◌+◌, ◌-◌, ◌*◌, ◌/◌, ◌≤◌, ◌<◌}
use mathlib.Core.Path.{◌≡◌, refl, sym, ap, ◌∙◌}
use mathlib.Core.Bool.{Bool, true, false, ◌&&◌}
use mathlib.Core.List.{List, [], ◌∷◌}
use native.Mathlib.Numerals.{add-one}
use native.Mathlib.Omega.{arith}
use native.Mathlib.Nat.{div-add-mod', mod-lt, div-eq_of_lt, div-eq-sub-div, not-suc-le-zero}
use lib.Dec.{lit<, leb}
use lib.ListN.{length, take, drop, length-take, length-drop}
use borrow.Author.Tests.{le-leb, lt-leb, leb-false, leb-true}
use Rattle.std.specs.Prelude.{if◌then◌else◌, Some, None}
use Rattle.std.proofs.lemmas.Option.{none-some, same_Some}
use Rattle.fields.specs.BigEndian.{number_at, be_at}
use Rattle.fields.proofs.Parts.{part_read}
use Rattle.header.specs.declared.flags.LargeFileFlag.{LargeFileFlag}
use Rattle.header.specs.declared.flags.LargeFileFlag.TheVariants.{Normal, Large}
use Rattle.nak.specs.declared.Nak.{Nak}
use Rattle.nak.specs.declared.requests.NextRequest.{NextRequest}
use Rattle.header.specs.Size.{size_width}
use Rattle.header.proofs.Sizes.{size_high}
use Rattle.nak.specs.Nak.{pair_size}
use Rattle.nak.specs.Requests.{area_of, pairs_from, pairs_of, pairs_left, next_request, walk}
use Rattle.nak.specs.Demands.{WalkShowsPairs, EndForEver, IteratorShowsPairs, NoneForEver}

-- ---- the area as a part of the bytes

pub within : (n : Nak) (s : List ℕ) → n.area ≤ n.stop → n.stop ≤ length s → take (n.stop - n.area) (drop n.area s) ≡ area_of n s
unfolding area_of
within n s k l = rw (le-leb _ _ k, le-leb _ _ l)

-- it has no more bytes
pub area_short : (n : Nak) (s : List ℕ) → length (area_of n s) ≤ length s
unfolding area_of
area_short n s = go (leb n.area n.stop && leb n.stop (length s))
  where
    go : (c : Bool) → length (if c then take (n.stop - n.area) (drop n.area s) else []) ≤ length s
    go true = simp (length-take, length-drop) (omega arith)
    go false = omega arith

-- ---- a number whose bytes are there

module _ (file f : LargeFileFlag) (pf : file ≡ f) (s : List ℕ) (at : ℕ) (there : at + size_width file ≤ length s) where
  pub offset_there : at + size_width f ≤ length s
  offset_there = omega (arith, ap size_width pf)

  -- read from a part of just its bytes
  pub offset_read : (r : ℕ) → r ≡ be_at (take (at + size_width f - at) (drop at s)) 0 (size_width f) → r ≡ number_at s at (size_width file)
  offset_read r q =
      q ∙ part_read s at (size_width f) (at + size_width f) refl (size_high f) offset_there ∙ ap (λ (x : LargeFileFlag). number_at s at (size_width x)) (sym pf)

-- ---- the pairs of an area, and one step

pub pairs_are : (file : LargeFileFlag) (a : List ℕ) → pairs_of file a ≡ pairs_from (size_width file) a 0 (length a / pair_size file)
unfolding pairs_of
pairs_are file a = refl

-- the pair that stands at a place, and the cursor behind it
abbrev pub pair_here : List ℕ → LargeFileFlag → ℕ → NextRequest
pair_here a file at =
    record { start = number_at a at (size_width file); end = number_at a (at + size_width file) (size_width file); next = record { at = at + pair_size file } }

pub shows_pair : (a : List ℕ) (file : LargeFileFlag) (at : ℕ) → at + pair_size file ≤ length a
    → next_request a file at ≡ Some (pair_here a file at)
unfolding next_request
shows_pair a file at l = rw (le-leb _ _ l)

pub next_pair : (a : List ℕ) (file : LargeFileFlag) (at w x y : ℕ) → w ≡ size_width file → at + 2 * w ≤ length a → x ≡ number_at a at (size_width file)
    → y ≡ number_at a (at + w) (size_width file)
    → Some (record { start = x; end = y; next = record { at = at + 2 * w } }) ≡ next_request a file at
unfolding next_request
next_pair a file at w x y e l p q =
    let l' : at + 2 * size_width file ≤ length a = omega (arith, e) in
    rw (p, q, e, le-leb _ _ l')

pub next_end : (a : List ℕ) (file : LargeFileFlag) (at w : ℕ) → w ≡ size_width file → length a < at + 2 * w → None ≡ next_request a file at
unfolding next_request
next_end a file at w e l =
    let l' : length a < at + 2 * size_width file = omega (arith, e) in
    rw (lt-leb _ _ l')

-- ---- the pairs that are left from a position on

pub size_positive : (file : LargeFileFlag) → 0 < pair_size file
size_positive Normal = lit< tt
size_positive Large = lit< tt

-- from the start on they are the area's pairs
pub left_whole : (file : LargeFileFlag) (a : List ℕ) → pairs_left a file 0 ≡ pairs_of file a
unfolding pairs_left
left_whole file a = let e : length a - 0 ≡ length a = omega arith in rw (e, pairs_are file a)

pub left_are : (a : List ℕ) (file : LargeFileFlag) (at : ℕ) → pairs_left a file at ≡ pairs_from (size_width file) a at ((length a - at) / pair_size file)
unfolding pairs_left
left_are a file at = refl

module _ (a : List ℕ) (file : LargeFileFlag) (at : ℕ) where
  pub left_here : at + pair_size file ≤ length a
      → pairs_left a file at ≡ (number_at a at (size_width file), number_at a (at + size_width file) (size_width file)) ∷ pairs_left a file (at + pair_size file)
  unfolding pairs_left
  left_here h =
      let e : length a - at - pair_size file ≡ length a - (at + pair_size file) = omega arith in
      let d : (length a - at) / pair_size file ≡ suc ((length a - (at + pair_size file)) / pair_size file) =
      div-eq-sub-div (size_positive file) (let k : pair_size file ≤ length a - at = omega arith in k) ∙ add-one _ ∙ ap (λ (n : ℕ). suc (n / pair_size file)) e in
      ap (pairs_from (size_width file) a at) d

  pub left_none : length a < at + pair_size file → pairs_left a file at ≡ []
  unfolding pairs_left
  left_none h = ap (pairs_from (size_width file) a at) (div-eq_of_lt (let k : length a - at < pair_size file = omega (arith, size_positive file) in k))

  -- a pair that the cursor shows is the first of those that are left, and whole
  pub next_shows : (p : NextRequest) → Some p ≡ next_request a file at
      → (pairs_left a file at ≡ (p.start, p.end) ∷ pairs_left a file p.next.at) × (p.next.at ≡ at + pair_size file) × (at + pair_size file ≤ length a)
  next_shows p e = go (leb (at + pair_size file) (length a)) refl
    where
      go : (c : Bool) → leb (at + pair_size file) (length a) ≡ c
          → (pairs_left a file at ≡ (p.start, p.end) ∷ pairs_left a file p.next.at) × (p.next.at ≡ at + pair_size file) × (at + pair_size file ≤ length a)
      go true q =
          let l = leb-true _ _ q in
          let is : p ≡ pair_here a file at = same_Some _ _ (e ∙ shows_pair a file at l) in
          (rw is (left_here l), rw is refl, l)
      go false q = absurd (none-some _ (next_end a file at (size_width file) refl (leb-false _ _ q) ∙ sym e))

  -- where it shows the end, none is left
  pub next_over : None ≡ next_request a file at → pairs_left a file at ≡ []
  next_over e = go (leb (at + pair_size file) (length a)) refl
    where
      go : (c : Bool) → leb (at + pair_size file) (length a) ≡ c → pairs_left a file at ≡ []
      go true q = absurd (none-some _ (e ∙ shows_pair a file at (leb-true _ _ q)))
      go false q = left_none (leb-false _ _ q)

-- ---- the walk

-- from a position with n whole pairs and no more, n steps or more show exactly those
walk_from : (a : List ℕ) (file : LargeFileFlag) (n rounds at : ℕ) → n ≤ rounds → at + n * pair_size file ≤ length a
    → length a < at + n * pair_size file + pair_size file
    → walk a file rounds at ≡ pairs_from (size_width file) a at n
unfolding next_request
walk_from a file zero zero at r h k = refl
walk_from a file zero (suc rounds) at r h k =
    let g : length a < at + 2 * size_width file = omega arith in
    rw (lt-leb _ _ g)
walk_from a file (suc n) zero at r h k = absurd (not-suc-le-zero r)
walk_from a file (suc n) (suc rounds) at r h k =
    let l : at + 2 * size_width file ≤ length a = omega arith in
    rw (le-leb _ _ l)
    (ap (λ (m : List (ℕ × ℕ)). (number_at a at (size_width file), number_at a (at + size_width file) (size_width file)) ∷ m)
    (walk_from a file n rounds (at + 2 * size_width file) (omega arith) (omega arith) (omega arith)))

pub walk_shows_pairs : WalkShowsPairs
unfolding pairs_of
walk_shows_pairs a file rounds r =
    walk_from a file (length a / pair_size file) rounds 0 r
    (omega (arith, div-add-mod' (length a) (pair_size file)))
    (omega (arith, div-add-mod' (length a) (pair_size file), mod-lt (length a) (size_positive file)))

-- no whole pair at a position, and so none behind it
pub end_for_ever : EndForEver
unfolding next_request
end_for_ever a file at more e =
    let l : length a < at + pair_size file = no_pair (leb (at + pair_size file) (length a)) refl e in
    sym (next_end a file (at + more) (size_width file) refl (omega arith))
  where
    no_pair : (c : Bool) → leb (at + pair_size file) (length a) ≡ c
        → (if c then Some (pair_here a file at) else None) ≡ None → length a < at + pair_size file
    no_pair true p d = absurd (none-some _ (sym d))
    no_pair false p d = leb-false _ _ p

pub iterator_shows_pairs : IteratorShowsPairs
iterator_shows_pairs area file = left_whole file area

pub none_for_ever : NoneForEver
none_for_ever a file at more e =
    let l : length a < at + pair_size file = no_pair (leb (at + pair_size file) (length a)) refl in
    left_none a file (at + more) (omega arith)
  where
    no_pair : (c : Bool) → leb (at + pair_size file) (length a) ≡ c → length a < at + pair_size file
    no_pair true q = let one = ap length (sym e ∙ left_here a file at (leb-true _ _ q)) in omega (arith, one)
    no_pair false q = leb-false _ _ q

pairs_length : (w : ℕ) (a : List ℕ) (at n : ℕ) → length (pairs_from w a at n) ≡ n
pairs_length w a at zero = refl
pairs_length w a at (suc n) = ap suc (pairs_length w a (at + 2 * w) n)

-- an area has as many pairs as are whole in its length
pub pairs_count : (file : LargeFileFlag) (a : List ℕ) → length (pairs_of file a) ≡ length a / pair_size file
unfolding pairs_of
pairs_count file a = pairs_length (size_width file) a 0 (length a / pair_size file)
