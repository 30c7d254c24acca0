-- Stores: bytes, a field, and a number as a field; and what a write leaves where it fits and where it does not.
-- Assumes nothing.
use Prim.Native.Nat.{ℕ, ◌+◌, ◌^◌, ◌≤◌, ◌<◌}
use mathlib.Core.Path.{◌≡◌, sym, ap, ap₂, ◌∙◌}
use mathlib.Core.Bool.{true, false, and-false}
use mathlib.Core.List.{List, ◌++◌}
use native.Mathlib.Nat.{lt_of_lt_of_le, pow-le-pow_right}
use native.Mathlib.Omega.{arith}
use lib.Dec.{leb}
use lib.ListN.{length, take, drop, length-append}
use lib.Seq.{sets, sets-eq, take_at, length-sets, length-take-le}
use borrow.Author.Tests.{le-leb, lt-leb}
use Rattle.fields.specs.Width.{fits_width}
use Rattle.fields.specs.BigEndian.{be_bytes, be_put}
use Rattle.fields.proofs.BigEndian.{be_length, put_length, put_sets, put_empty, put_behind, sets_append}
use Rattle.fields.proofs.Width.{fits_lt, lt_fits}
use Rattle.tlv.specs.declared.Form.{Form}
use Rattle.tlv.specs.declared.Form.TheVariants.{Lv, Tlv, LongTlv}
use Rattle.tlv.specs.Form.{tag_bytes, length_bytes, head_bytes, head_of, field_bytes}
use Rattle.tlv.specs.Writing.{bytes_put, field_put, number_put}
use Rattle.tlv.proofs.Reading.{length_most, length_least}

-- ---- bytes that are written

module _ (s bytes : List ℕ) (at : ℕ) where
  pub bytes_stored : leb (at + length bytes) (length s) ≡ true → sets s at bytes ≡ bytes_put s at bytes
  unfolding bytes_put
  bytes_stored e = rw e

  -- for callers: bytes that lie in the buffer
  pub put_bytes_sets : at + length bytes ≤ length s → bytes_put s at bytes ≡ sets s at bytes
  put_bytes_sets l = sym (bytes_stored (le-leb _ _ l))

-- ---- a field

pub head_length : (form : Form) (tag size : ℕ) → length (head_of form tag size) ≡ head_bytes form
unfolding head_of
head_length form tag size =
    length-append (be_bytes (tag_bytes form) tag) (be_bytes (length_bytes form) size)
    ∙ ap₂ (λ (a b : ℕ). a + b) (be_length (tag_bytes form) tag) (be_length (length_bytes form) size)

pub field_length : (form : Form) (tag : ℕ) (value : List ℕ) → length (field_bytes form tag value) ≡ head_bytes form + length value
unfolding field_bytes
field_length form tag value = length-append (head_of form tag (length value)) value ∙ ap (λ (n : ℕ). n + length value) (head_length form tag (length value))

-- a form without a type stores none, whatever it is
tag_sets : (form : Form) (s : List ℕ) (at tag : ℕ) → at + tag_bytes form ≤ length s → tag < 256
    → be_put s at (tag_bytes form) tag ≡ sets s at (be_bytes (tag_bytes form) tag)
tag_sets Lv s at tag l h = put_empty s at tag
tag_sets Tlv s at tag l h = put_sets s at 1 tag (omega arith) l (omega arith)
tag_sets LongTlv s at tag l h = put_sets s at 1 tag (omega arith) l (omega arith)

-- type, length and value, one behind the other
pub field_stored : (form : Form) (s b₁ b₂ b₃ value : List ℕ) (at tag t w : ℕ) → t ≡ tag_bytes form → w ≡ length_bytes form → tag < 256
    → length value < 256 ^ length_bytes form
    → at + (head_bytes form + length value) ≤ length s → b₁ ≡ be_put s at t tag → b₂ ≡ be_put b₁ (at + t) w (length value) → b₃ ≡ sets b₂ (at + t + w) value → b₃ ≡ sets s at (field_bytes form tag value)
unfolding field_bytes head_of
field_stored form s b₁ b₂ b₃ value at tag t w et ew h k room e₁ e₂ e₃ =
    let T = tag_bytes form in
    let W = length_bytes form in
    let A = be_bytes T tag in
    let B = be_bytes W (length value) in
    let lA : at + length A ≡ at + T = ap (λ (n : ℕ). at + n) (be_length T tag) in
    let lAB : length (A ++ B) ≡ T + W = length-append A B ∙ ap₂ (λ (a b : ℕ). a + b) (be_length T tag) (be_length W (length value)) in
    let p₁ : b₁ ≡ sets s at A = e₁ ∙ ap (λ (n : ℕ). be_put s at n tag) et ∙ tag_sets form s at tag (omega arith) h in
    let q₂ : b₂ ≡ be_put b₁ (at + T) W (length value) = e₂ ∙ ap₂ (λ (a b : ℕ). be_put b₁ (at + a) b (length value)) et ew in
    let p₂ : b₂ ≡ sets s at (A ++ B) = put_behind s A at (at + T) W (length value) lA (omega (arith, length_most form)) (omega arith) k p₁ q₂ in
    let place : at + t + w ≡ at + length (A ++ B) = omega (arith, lAB) in
    e₃ ∙ ap₂ (λ (x : List ℕ) (n : ℕ). sets x n value) p₂ place ∙ sym (sets_append (A ++ B) value s at)

module _ (form : Form) (s value : List ℕ) (at tag : ℕ) where
  -- for callers: a field that fits and lies in the buffer
  pub put_field_sets : length value < 256 ^ length_bytes form → at + (head_bytes form + length value) ≤ length s
      → field_put form s at tag value ≡ sets s at (field_bytes form tag value)
  unfolding field_put
  put_field_sets h l = rw (lt_fits _ _ h, le-leb _ _ l)

-- ---- chains: behind what stands written so far, `pre`, with the rest as it was

pub then_field : (form : Form) (pre l value : List ℕ) (at n tag : ℕ) {b b' : List ℕ} → at + length pre ≡ n → length value < 256 ^ length_bytes form
    → n + (head_bytes form + length value) ≤ length l
    → b ≡ sets l at pre → b' ≡ field_put form b n tag value → b' ≡ sets l at (pre ++ field_bytes form tag value)
then_field form pre l value at n tag {b} {b'} e h k p q =
    let X = field_bytes form tag value in
    let m : length b ≡ length l = ap length p ∙ length-sets l at pre in
    q
    ∙ put_field_sets form b value n tag h (omega arith)
    ∙ ap₂ (λ (x : List ℕ) (j : ℕ). sets x j X) p (sym e)
    ∙ sym (sets_append pre X l at)

pub then_bytes : (pre l bytes : List ℕ) (at n : ℕ) {b b' : List ℕ} → at + length pre ≡ n → n + length bytes ≤ length l → b ≡ sets l at pre
    → b' ≡ bytes_put b n bytes → b' ≡ sets l at (pre ++ bytes)
then_bytes pre l bytes at n {b} {b'} e k p q =
    let m : length b ≡ length l = ap length p ∙ length-sets l at pre in
    q
    ∙ put_bytes_sets b bytes n (omega arith)
    ∙ ap₂ (λ (x : List ℕ) (j : ℕ). sets x j bytes) p (sym e)
    ∙ sym (sets_append pre bytes l at)

-- ---- a field whose value is a number

-- the number stands in front of eight bytes
module _ (z b : List ℕ) (w v : ℕ) (eight : length z ≡ 8) (h : w ≤ 8) (e : b ≡ be_put z 0 w v) where
  pub front_counted : w ≡ length (take w b)
  front_counted = sym (length-take-le w b (omega (arith, ap length e, put_length z 0 w v)))

  front_is : v < 256 ^ w → take w b ≡ be_bytes w v
  front_is f =
      let X = be_bytes w v in
      let l : 0 + length X ≤ length z = omega (arith, be_length w v) in
      ap (take w) (e ∙ put_sets z 0 w v h (omega arith) f ∙ sets-eq X z 0 l) ∙ take_at X (drop (0 + length X) z) w (be_length w v)

  module _ (form : Form) (s : List ℕ) (at tag : ℕ) where
    pub number_put_lem : (b' : List ℕ) → fits_width w v ≡ true → b' ≡ field_put form s at tag (take w b) → b' ≡ number_put form s at tag w v
    unfolding number_put
    number_put_lem b' f q = rw (le-leb _ _ h, f) (q ∙ ap (field_put form s at tag) (front_is (fits_lt w v f)))

module _ (form : Form) (s : List ℕ) (at tag w v : ℕ) where
  pub number_wide : 8 < w → s ≡ number_put form s at tag w v
  unfolding number_put
  number_wide l = rw (lt-leb _ _ l)

  pub number_misfit : fits_width w v ≡ false → s ≡ number_put form s at tag w v
  unfolding number_put
  number_misfit e = rw (e, and-false)

  -- for callers: a number that fits and lies in the buffer
  pub put_number_sets : w ≤ 8 → v < 256 ^ w → at + (head_bytes form + w) ≤ length s → number_put form s at tag w v ≡ sets s at (field_bytes form tag (be_bytes w v))
  unfolding number_put
  put_number_sets h f l =
      let lX : length (be_bytes w v) ≡ w = be_length w v in
      let k : w < 256 ^ length_bytes form = lt_of_lt_of_le (omega arith) (pow-le-pow_right (omega arith) {i = 1} {j = length_bytes form} (length_least form)) in
      rw (le-leb _ _ h, lt_fits _ _ f) (put_field_sets form s (be_bytes w v) at tag (rw lX k) (omega arith))
