-- The pairs of a request area: the one of an index is the one that the cursor shows in its bytes, and storing pairs one after the other stores their numbers.
-- Assumes nothing.
use Prim.Native.Nat.{ℕ, zero, suc, ◌+◌, ◌-◌, ◌*◌, ◌/◌, ◌≤◌, ◌<◌}
use mathlib.Core.Path.{◌≡◌, refl, sym, ap, ◌∙◌}
use mathlib.Core.Bool.{Bool}
use mathlib.Core.List.{List, [], ◌∷◌, ◌++◌}
use native.Mathlib.Omega.{arith}
use native.Mathlib.Nat.{div-add-mod', mul-le-mul_right, not-suc-le-zero, zero-add, add-zero}
use native.Mathlib.Numerals.{add-one}
use lib.ListN.{length, get_or, take, drop, set, length-take, length-drop, drop_of_length-le}
use lib.Seq.{sets, sets-eq, drop-cons, get_or-take}
use Rattle.fields.specs.BigEndian.{number_at}
use Rattle.header.specs.declared.flags.LargeFileFlag.{LargeFileFlag}
use Rattle.header.specs.Flags.{file_if}
use Rattle.nak.specs.declared.requests.NextRequest.{NextRequest}
use Rattle.std.specs.Prelude.{Some, None}
use Rattle.std.specs.List.{slice_get}
use Rattle.std.proofs.lemmas.Option.{none-some, same_Some, slice_get_past, slice_get_within, slice_get-get_or, get_or_from_slice_get}
use Rattle.header.specs.Size.{size_width}
use Rattle.nak.specs.Requests.{pairs_from, next_request}
use Rattle.nak.specs.Cases.{flat}
use Rattle.fields.proofs.Parts.{number_part}
use Rattle.nak.proofs.Walking.{pairs_count, pairs_are, shows_pair}
use Rattle.cfdp.specs.Pairs.{pairs_in}

-- ---- the pair of an index

-- the pair of w-byte numbers at a place
abbrev pair_of : ℕ → List ℕ → ℕ → ℕ × ℕ
pair_of w a at = (number_at a at w, number_at a (at + w) w)

pairs_at : (w : ℕ) (a : List ℕ) (at n i : ℕ) → i < n → get_or (pairs_from w a at n) i (0, 0) ≡ pair_of w a (at + i * (2 * w))
pairs_at w a at zero i h = absurd (not-suc-le-zero h)
pairs_at w a at (suc n) zero h =
    let e : at ≡ at + 0 * (2 * w) = omega arith in
    ap (pair_of w a) e
pairs_at w a at (suc n) (suc i) h =
    let e : at + 2 * w + i * (2 * w) ≡ at + suc i * (2 * w) = omega arith in
    pairs_at w a (at + 2 * w) n i (omega arith) ∙ ap (pair_of w a) e

-- a pair whose index is below the count of whole ones lies in the area
pub whole_pair : (n size i : ℕ) → i < n / size → i * size + size ≤ n
whole_pair n size i h = omega (arith, div-add-mod' n size, mul-le-mul_right size h)

module _ (large : Bool) (a : List ℕ) (i : ℕ) (file : LargeFileFlag) (w : ℕ) (ef : file ≡ file_if large) (ew : w ≡ size_width file) where
  same : size_width (file_if large) ≡ w
  same = sym (ew ∙ ap size_width ef)

  count_is : length (pairs_in large a) ≡ length a / (2 * w)
  count_is = pairs_count (file_if large) a ∙ ap (λ (k : ℕ). length a / (2 * k)) same

  -- an index behind the last whole pair names none
  pub no_pair : length a / (2 * w) ≤ i → None ≡ slice_get (pairs_in large a) i
  no_pair l = sym (slice_get_past (pairs_in large a) i (omega (arith, count_is)))

  module _ (h : i < length a / (2 * w)) where
    at_pair : get_or (pairs_in large a) i (0, 0) ≡ pair_of (size_width file) a (i * (2 * w))
    at_pair =
        ap (λ (ps : List (ℕ × ℕ)). get_or ps i (0, 0)) (pairs_are (file_if large) a)
        ∙ ap (λ (k : ℕ). get_or (pairs_from k a 0 (length a / (2 * k))) i (0, 0)) same
        ∙ pairs_at w a 0 (length a / (2 * w)) i h
        ∙ ap (pair_of w a) (zero-add (i * (2 * w)))
        ∙ ap (λ (k : ℕ). pair_of k a (i * (2 * w))) ew

    -- the pair's bytes
    abbrev part : List ℕ
    part = take (i * (2 * w) + 2 * w - i * (2 * w)) (drop (i * (2 * w)) a)

    -- in these bytes the cursor shows it
    shows : next_request part file 0
        ≡ Some (record { start = number_at a (i * (2 * w)) (size_width file); end = number_at a (i * (2 * w) + size_width file) (size_width file); next = record { at = 0 + 2 * size_width file } })
    shows =
        let at = i * (2 * w) in
        let n = at + 2 * w - at in
        let W = size_width file in
        let k : n ≡ 2 * w = omega arith in
        let l : 0 + 2 * W ≤ length part = omega (arith, k, ew, whole_pair (length a) (2 * w) i h, length-take n (drop at a), length-drop at a) in
        let p : number_at part 0 W ≡ number_at a at W = number_part a at n 0 W (omega (arith, k, ew)) ∙ ap (λ (m : ℕ). number_at a m W) (add-zero at) in
        let q : number_at part (0 + W) W ≡ number_at a (at + W) W = number_part a at n (0 + W) W (omega (arith, k, ew))
        ∙ ap (λ (m : ℕ). number_at a (at + m) W) (zero-add W) in
        shows_pair part file 0 l ∙ rw (p, q)

    pub found_pair : (n : NextRequest) → Some n ≡ next_request part file 0 → Some (n.start, n.end) ≡ slice_get (pairs_in large a) i
    found_pair n q =
        let l : i < length (pairs_in large a) = omega (arith, count_is) in
        ap (λ (m : NextRequest). Some (m.start, m.end)) (same_Some _ _ (q ∙ shows))
        ∙ ap Some (sym at_pair)
        ∙ sym (slice_get-get_or (pairs_in large a) i (0, 0) l)

    -- and so not the end
    pub not_end : None ≡ next_request part file 0 → ⊥
    not_end q = none-some _ (q ∙ shows)

-- ---- pairs stored one after the other

flat_length : (ps : List (ℕ × ℕ)) → length (flat ps) ≡ 2 * length ps
flat_length [] = refl
flat_length (p ∷ ps) = let e = flat_length ps in omega arith

module _ (ps : List (ℕ × ℕ)) (room i : ℕ) (l : List ℕ) where
  -- one more pair is stored
  pub pair_turn : i < room → (x y : ℕ) → Some (x, y) ≡ slice_get ps i
      → sets (set (set l (2 * i) x) (2 * i + 1) y) (2 * (i + 1)) (flat (drop (i + 1) (take room ps))) ≡ sets l (2 * i) (flat (drop i (take room ps)))
  pair_turn h x y e =
      let b : i < length (take room ps) = omega (arith, length-take room ps, slice_get_within ps i (x, y) (sym e)) in
      let q : get_or ps i (0, 0) ≡ (x, y) = get_or_from_slice_get ps i (x, y) (0, 0) (sym e) in
      let e₁ : 2 * i + 1 ≡ suc (2 * i) = omega arith in
      let e₂ : 2 * (i + 1) ≡ suc (suc (2 * i)) = omega arith in
      rw (drop-cons (take room ps) i (0, 0) b, get_or-take room ps i (0, 0) h, q, e₁, e₂, add-one)

-- an index that names no pair lies behind all of them
pub pair_none : (ps : List (ℕ × ℕ)) (i : ℕ) → None ≡ slice_get ps i → length ps ≤ i
pair_none [] i e = omega arith
pair_none (p ∷ ps) zero e = absurd (none-some _ e)
pair_none (p ∷ ps) (suc i) e = omega (arith, pair_none ps i e)

-- no pair is left: all that have room are stored
pub pairs_done : (qs : List (ℕ × ℕ)) (i : ℕ) (s l : List ℕ) → length qs ≤ i → 2 * length qs ≤ length s
    → sets l (2 * i) (flat (drop i qs)) ≡ sets s 0 (flat qs)
    → l ≡ flat qs ++ drop (length (flat qs)) s
pairs_done qs i s l k room e =
    let none : drop i qs ≡ [] = drop_of_length-le qs k in
    let all : l ≡ sets s 0 (flat qs) = ap (λ (rs : List (ℕ × ℕ)). sets l (2 * i) (flat rs)) (sym none) ∙ e in
    all ∙ sets-eq (flat qs) s 0 (omega (arith, flat_length qs)) ∙ simp zero-add
