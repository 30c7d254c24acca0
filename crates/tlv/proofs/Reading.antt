-- One field at a place: when it is whole, where it stops, when it is the only one, and its value as a part of the bytes. Once over the form.
-- Assumes nothing.
use Prim.Native.Nat.{ℕ, ◌+◌, ◌-◌, ◌^◌, ◌≤◌, ◌<◌}
use mathlib.Core.Path.{◌≡◌, refl, sym, ap, ap₂, ◌∙◌}
use mathlib.Core.Bool.{Bool, true, false, ◌&&◌}
use mathlib.Core.Logic.{◌⊎◌, inl, inr}
use mathlib.Core.List.{List, []}
use native.Mathlib.Decide.{dec_le}
use native.Mathlib.Nat.{lt_of_not-le, lt_of_lt_of_le, pow-le-pow_right}
use native.Mathlib.Omega.{arith}
use lib.Dec.{eqb, lit<, lit≤}
use lib.ListN.{length, take, drop}
use borrow.Author.Tests.{le-leb, lt-leb, eq-eqb, ne_eqb, eqb-true}
use Rattle.std.specs.Prelude.{if◌then◌else◌, Option, Some, None, Result, Ok, Err}
use Rattle.fields.specs.BigEndian.{Bytes, number_at, be_at}
use Rattle.fields.proofs.BigEndian.{at_number, number_lt}
use Rattle.std.specs.Result.{result_ok}
use Rattle.std.specs.Option.{unwrap_or}
use Rattle.std.specs.Slice.{IsGetRangeResult}
use Rattle.std.proofs.Common.{Bor}
use Rattle.tlv.specs.declared.Form.{Form}
use Rattle.tlv.specs.declared.Form.TheVariants.{Lv, Tlv, LongTlv}
use Rattle.tlv.specs.declared.Field.{Field}
use Rattle.tlv.specs.declared.Cut.{Cut}
use Rattle.tlv.specs.Form.{tag_bytes, length_bytes, head_bytes}
use Rattle.tlv.specs.Reading.{tag_at, length_at, stop_at, is_whole, field_at, cut_at, field_in, only_if, only_field, value_of}
use Rattle.tlv.specs.Within.{behind}

pub head_some : (form : Form) → 0 < head_bytes form
head_some Lv = lit< tt
head_some Tlv = lit< tt
head_some LongTlv = lit< tt

pub tag_most : (form : Form) → tag_bytes form ≤ 1
tag_most Lv = lit≤ tt
tag_most Tlv = lit≤ tt
tag_most LongTlv = lit≤ tt

pub length_most : (form : Form) → length_bytes form ≤ 2
length_most Lv = lit≤ tt
length_most Tlv = lit≤ tt
length_most LongTlv = lit≤ tt

pub length_least : (form : Form) → 1 ≤ length_bytes form
length_least Lv = lit≤ tt
length_least Tlv = lit≤ tt
length_least LongTlv = lit≤ tt

-- ---- whole, or cut

module _ (form : Form) (area : List ℕ) (at : ℕ) where
  pub whole : stop_at form area at ≤ length area → is_whole form area at ≡ true
  unfolding is_whole
  whole l = le-leb _ _ l

  pub not_whole : length area < stop_at form area at → is_whole form area at ≡ false
  unfolding is_whole
  not_whole l = lt-leb _ _ l

  -- the two cases
  pub whole? : (stop_at form area at ≤ length area) ⊎ (length area < stop_at form area at)
  whole? =
      elim (dec_le (stop_at form area at) (length area)) [
        | yes l ↦ inl l
        | no g ↦ inr (lt_of_not-le g)
      ]

  pub behind_whole : stop_at form area at ≤ length area → Some (stop_at form area at) ≡ behind form area at
  unfolding behind
  behind_whole l = rw (whole l)

  -- the same from its parts
  pub stops : (head size : ℕ) → head ≡ head_bytes form → size ≡ length_at form area at → at + head + size ≤ length area → Some (at + head + size) ≡ behind form area at
  stops head size p q l =
      let e : at + head + size ≡ stop_at form area at = ap₂ (λ (x y : ℕ). at + x + y) p q in
      ap Some e ∙ behind_whole (omega arith)

  pub behind_cut : length area < stop_at form area at → None ≡ behind form area at
  unfolding behind
  behind_cut l = rw (not_whole l)

  pub field_whole : stop_at form area at ≤ length area → Ok (field_at form area at) ≡ field_in form area at
  unfolding field_in
  field_whole l = rw (whole l)

  pub field_cut : length area < stop_at form area at → cut_at at ≡ field_in form area at
  unfolding field_in
  field_cut l = rw (not_whole l)

  -- there is a place behind a field exactly if it is whole
  pub none_behind : None ≡ behind form area at → length area < stop_at form area at
  none_behind p = go whole?
    where
      go : (stop_at form area at ≤ length area) ⊎ (length area < stop_at form area at) → length area < stop_at form area at
      go (inl l) = let q = p ∙ sym (behind_whole l) in absurd (cc)
      go (inr l) = l

  pub some_behind : (v : ℕ) → Some v ≡ behind form area at → (stop_at form area at ≤ length area) × (v ≡ stop_at form area at)
  some_behind v p = go whole?
    where
      go : (stop_at form area at ≤ length area) ⊎ (length area < stop_at form area at) → (stop_at form area at ≤ length area) × (v ≡ stop_at form area at)
      go (inl l) = let q = p ∙ sym (behind_whole l) in (l, cc)
      go (inr l) = let q = p ∙ sym (behind_cut l) in absurd (cc)

  pub field_here : (v start tag : ℕ) → Some v ≡ behind form area at → start ≡ at + head_bytes form → tag ≡ tag_at form area at
      → Ok (record { tag = tag; start = start; stop = v }) ≡ field_in form area at
  field_here v start tag e p q =
      let b = some_behind v e in
      (λ i. Ok (record { tag = q i; start = p i; stop = b.1 i })) ∙ field_whole b.0

-- what reading the field at a place cites
pub ruleset here = (none_behind, some_behind, field_cut, field_here)

-- a field that was read is the one that stands there, whole
pub is_field : (form : Form) (area : List ℕ) (at : ℕ) (f : Field) → field_in form area at ≡ Ok f
    → (stop_at form area at ≤ length area) × (field_at form area at ≡ f)
is_field form area at f e = go (whole? form area at)
  where
    go : (stop_at form area at ≤ length area) ⊎ (length area < stop_at form area at) → (stop_at form area at ≤ length area) × (field_at form area at ≡ f)
    go (inl l) = let p = field_whole form area at l ∙ e in (l, cc)
    go (inr l) = let p = field_cut form area at l ∙ e in absurd (cc)

pub record Inside (area : List ℕ) (at : ℕ) (f : Field) : Type 0 where
  pub starts : at < f.start
  pub stops : f.start ≤ f.stop
  pub inside : f.stop ≤ length area

pub field_inside : (form : Form) (area : List ℕ) (at : ℕ) (f : Field) → field_in form area at ≡ Ok f → Inside area at f
field_inside form area at f e =
    let l = (is_field form area at f e).0 in
    let q = (is_field form area at f e).1 in
    let s : at + head_bytes form ≡ f.start = ap (λ (x : Field). x.start) q in
    let t : stop_at form area at ≡ f.stop = ap (λ (x : Field). x.stop) q in
    record { starts = omega (arith, head_some form); stops = omega arith; inside = omega arith }

-- its value is no longer than its length can say
pub field_size : (form : Form) (area : List ℕ) (at : ℕ) (f : Field) → Bytes area → field_in form area at ≡ Ok f → f.stop - f.start < 256 ^ length_bytes form
unfolding length_at
field_size form area at f b e =
    let q = (is_field form area at f e).1 in
    let s : at + head_bytes form ≡ f.start = ap (λ (x : Field). x.start) q in
    let t : at + head_bytes form + number_at area (at + tag_bytes form) (length_bytes form) ≡ f.stop = ap (λ (x : Field). x.stop) q in
    let n : f.stop - f.start ≡ number_at area (at + tag_bytes form) (length_bytes form) = omega arith in
    rw n (number_lt area (at + tag_bytes form) (length_bytes form) b)

-- ---- one field of a type, and nothing behind it

module _ (form : Form) (tag : ℕ) (area : List ℕ) (at : ℕ) where
  pub only_cut : (cut : Cut) → Err cut ≡ field_in form area at → None ≡ only_field form tag area at
  unfolding only_field
  only_cut cut e = rw (← e)

  pub only_none : (r : Result Field Cut) → r ≡ field_in form area at → None ≡ result_ok r → None ≡ only_field form tag area at
  only_none (Ok f) e p = absurd (cc)
  only_none (Err cut) e p = only_cut cut e

  pub read_ok : (f : Field) (r : Result Field Cut) → Some f ≡ result_ok r → Ok f ≡ r
  read_ok f (Ok g) p = cc
  read_ok f (Err cut) p = absurd (cc)

  module _ (f : Field) (e : Ok f ≡ field_in form area at) where
    pub other_type : (f.tag ≡ tag → ⊥) → None ≡ only_field form tag area at
    unfolding only_field
    other_type g = rw (← e, ne_eqb _ _ g)

    module _ (p : f.tag ≡ tag) where
      pub more_behind : (f.stop ≡ length area → ⊥) → None ≡ only_field form tag area at
      unfolding only_field
      more_behind g = rw (← e, eq-eqb _ _ p, ne_eqb _ _ g)

      pub the_only : f.stop ≡ length area → Some f ≡ only_field form tag area at
      unfolding only_field
      the_only q = rw (← e, eq-eqb _ _ p, eq-eqb _ _ q)

-- and what such an answer says
pub record IsOnly (form : Form) (tag : ℕ) (area : List ℕ) (at : ℕ) (f : Field) : Type 0 where
  pub read : field_in form area at ≡ Ok f
  pub type : f.tag ≡ tag
  pub stop : f.stop ≡ length area

pub is_only : (form : Form) (tag : ℕ) (area : List ℕ) (at : ℕ) (f : Field) → only_field form tag area at ≡ Some f → IsOnly form tag area at f
unfolding only_field
is_only form tag area at f e = by_field (field_in form area at) refl e
  where
    by_tests : (g : Field) (c d : Bool) → eqb g.tag tag ≡ c → eqb g.stop (length area) ≡ d → field_in form area at ≡ Ok g
        → (if c && d then Some g else None) ≡ Some f → IsOnly form tag area at f
    by_tests g true true p q r z =
        let y : g ≡ f = cc in
        record { read = r ∙ ap Ok y; type = ap (λ (x : Field). x.tag) (sym y) ∙ eqb-true _ _ p; stop = ap (λ (x : Field). x.stop) (sym y) ∙ eqb-true _ _ q }
    by_tests g true false p q r z = absurd (cc)
    by_tests g false d p q r z = absurd (cc)

    by_field : (x : Result Field Cut) → field_in form area at ≡ x → only_if tag (length area) x ≡ Some f → IsOnly form tag area at f
    by_field (Ok g) r z = by_tests g (eqb g.tag tag) (eqb g.stop (length area)) refl refl r z
    by_field (Err cut) r z = absurd (cc)

-- ---- the numbers of a head

small : (w b r : ℕ) → w ≤ b → r < 256 ^ w → r < 256 ^ b
small w b r h l = lt_of_lt_of_le l (pow-le-pow_right (omega arith) {i = w} {j = b} h)

module _ (form : Form) (area : List ℕ) (at r : ℕ) (l : at + head_bytes form ≤ length area) where
  pub length_read : (p w : ℕ) → p ≡ at + tag_bytes form → w ≡ length_bytes form → r ≡ be_at area p w → r < 256 ^ w → (r ≡ length_at form area at) × (r < 65536)
  unfolding length_at
  length_read p w ep ew e b =
      let m : length_bytes form ≤ 8 = omega (arith, length_most form) in
      let k : (at + tag_bytes form) + length_bytes form ≤ length area = omega arith in (
        e ∙ (λ i. be_at area (ep i) (ew i)) ∙ at_number area (at + tag_bytes form) (length_bytes form) m k,
        small w 2 r (omega (arith, length_most form)) b,
      )

  pub tag_read : (w : ℕ) → w ≡ tag_bytes form → r ≡ be_at area at w → r ≡ tag_at form area at
  unfolding tag_at
  tag_read w ew e =
      let m : tag_bytes form ≤ 8 = omega (arith, tag_most form) in
      let k : at + tag_bytes form ≤ length area = omega arith in
      e ∙ ap (be_at area at) ew ∙ at_number area at (tag_bytes form) m k

-- ---- the value as a part of the bytes

module _ (f : Field) (s : List ℕ) where
  pub backwards : f.stop < f.start → [] ≡ value_of f s
  unfolding value_of
  backwards l = rw (lt-leb _ _ l)

  pub beyond : f.start ≤ f.stop → length s < f.stop → [] ≡ value_of f s
  unfolding value_of
  beyond k l = rw (le-leb _ _ k, lt-leb _ _ l)

  pub within : f.start ≤ f.stop → f.stop ≤ length s → take (f.stop - f.start) (drop f.start s) ≡ value_of f s
  unfolding value_of
  within k l = rw (le-leb _ _ k, le-leb _ _ l)

  -- what get and unwrap_or hand back, where the part behind `unwrap_or` is empty
  pub part_or_empty : (r : Option (Bor (List ℕ))) (empty : Bor (List ℕ)) → IsGetRangeResult s f.start f.stop r → empty.now ≡ [] → (unwrap_or r empty).now ≡ value_of f s
  part_or_empty (Some x) empty g e = g.0.2 ∙ within g.0.0 g.0.1
  part_or_empty None empty g e =
      e ∙ elim (dec_le f.start f.stop) [
        | no k ↦ backwards (lt_of_not-le k)
        | yes k ↦ elim g.0 [
          | inl l ↦ absurd (omega arith)
          | inr l ↦ beyond k l
        ]
      ]
