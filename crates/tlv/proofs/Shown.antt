-- A walk shows exactly the fields, then the end for ever, or the field that is cut; and the bytes of what it shows are those that were walked.
-- Assumes nothing.
use Prim.Native.Nat.{ℕ, zero, suc, ◌+◌, ◌-◌, ◌≤◌, ◌<◌}
use mathlib.Core.Path.{◌≡◌, refl, sym, ap, ap₂, ◌∙◌}
use mathlib.Core.Bool.{Bool, true, false}
use mathlib.Core.Logic.{◌⊎◌, inl, inr}
use mathlib.Core.List.{List, [], ◌∷◌, ◌++◌, map}
use native.Mathlib.Decide.{dec_le}
use native.Mathlib.Nat.{not-suc-le-zero, lt_of_not-le, sub_self}
use native.Mathlib.Omega.{arith}
use lib.Dec.{leb}
use lib.ListN.{length, drop, take, length-drop}
use lib.Seq.{drop-drop, take-add, take_all, length-take-le}
use borrow.Author.Tests.{le-leb, leb-true, leb-false}
use Rattle.std.specs.Prelude.{if◌then◌else◌, Option, Result, Ok}
use Rattle.fields.specs.BigEndian.{Bytes}
use Rattle.fields.proofs.BigEndian.{number_bytes}
use Rattle.tlv.specs.declared.Form.{Form}
use Rattle.tlv.specs.declared.Field.{Field}
use Rattle.tlv.specs.declared.walk.NextField.{NextField}
use Rattle.tlv.specs.declared.Cut.{Cut}
use Rattle.tlv.specs.Form.{tag_bytes, length_bytes, head_bytes, head_of, field_bytes, fields_bytes}
use Rattle.tlv.specs.Reading.{tag_at, length_at, stop_at, field_at, cut_at, value_of, shown}
use Rattle.tlv.specs.Walking.{fields_from, fields_of, shown_from, last_stop, reach, first_cut}
use Rattle.tlv.specs.Shown.{step_on, walk, UncutIsWalked, Stopped, CutIsTold, Further, StepLeadsOn}
use Rattle.tlv.proofs.Reading.{head_some, whole?, within}
use Rattle.tlv.proofs.Walking.{next_end, next_field_lem, next_cut, fields_none, fields_first, fields_enough}

-- ---- the walk

-- so many steps show so many fields
walk_fields : (form : Form) (area : List ℕ) (rounds at : ℕ) → walk form area rounds at ≡ fields_from rounds form area at
unfolding walk fields_from
walk_fields form area zero at = refl
walk_fields form area (suc n) at = go (whole? form area at) (walk_fields form area n (stop_at form area at))
  where
    go : (stop_at form area at ≤ length area) ⊎ (length area < stop_at form area at)
        → walk form area n (stop_at form area at) ≡ fields_from n form area (stop_at form area at)
        → walk form area (suc n) at ≡ fields_from (suc n) form area at
    go (inl l) more =
        ap (λ (x : Result (Option NextField) Cut). step_on x (walk form area n)) (sym (next_field_lem form area at l))
        ∙ ap (λ (x : List Field). field_at form area at ∷ x) more
        ∙ sym (fields_first form area n at l)
    go (inr l) more = stopped (dec_le (length area) at) ∙ sym (fields_none form area (suc n) at l)
      where
        stopped : Dec (length area ≤ at) → walk form area (suc n) at ≡ []
        stopped (yes k) = ap (λ (x : Result (Option NextField) Cut). step_on x (walk form area n)) (sym (next_end form area at k))
        stopped (no g) = ap (λ (x : Result (Option NextField) Cut). step_on x (walk form area n)) (sym (next_cut form area at (lt_of_not-le g) l))

-- no more than there are
fields_count : (form : Form) (area : List ℕ) (m n at : ℕ) → length (fields_from m form area at) ≤ n → n ≤ m
    → fields_from n form area at ≡ fields_from m form area at
unfolding fields_from
fields_count form area zero zero at h k = refl
fields_count form area zero (suc n) at h k = absurd (not-suc-le-zero k)
fields_count form area (suc m) zero at h k = go (whole? form area at)
  where
    go : (stop_at form area at ≤ length area) ⊎ (length area < stop_at form area at) → [] ≡ fields_from (suc m) form area at
    go (inl l) = absurd (not-suc-le-zero (rw (fields_first form area m at l) at h))
    go (inr l) = sym (fields_none form area (suc m) at l)
fields_count form area (suc m) (suc n) at h k = go (whole? form area at) (fields_count form area m n (stop_at form area at))
  where
    go : (stop_at form area at ≤ length area) ⊎ (length area < stop_at form area at)
        → (length (fields_from m form area (stop_at form area at)) ≤ n → n ≤ m → fields_from n form area (stop_at form area at) ≡ fields_from m form area (stop_at form area at))
        → fields_from (suc n) form area at ≡ fields_from (suc m) form area at
    go (inl l) more =
        let j : suc (length (fields_from m form area (stop_at form area at))) ≤ suc n = rw (fields_first form area m at l) at h in
        fields_first form area n at l
        ∙ ap (λ (x : List Field). field_at form area at ∷ x) (more (omega arith) (omega arith))
        ∙ sym (fields_first form area m at l)
    go (inr l) more = fields_none form area (suc n) at l ∙ sym (fields_none form area (suc m) at l)

pub walk_shows_fields : (form : Form) (area : List ℕ) (at rounds : ℕ) → length (fields_of form area at) ≤ rounds
    → walk form area rounds at ≡ fields_of form area at
unfolding fields_of
walk_shows_fields form area at rounds h =
    elim (dec_le rounds (length area)) [
      | yes k ↦ walk_fields form area rounds at ∙ fields_count form area (length area) rounds at h k
      | no g ↦
          let k : length area < rounds = lt_of_not-le g in
          walk_fields form area rounds at ∙ fields_enough form area rounds (length area) at (omega arith) (omega arith)
    ]

-- ---- behind the fields

pub last_le : (form : Form) (area : List ℕ) (n at : ℕ) → at ≤ last_stop at (fields_from n form area at)
unfolding fields_from last_stop
last_le form area zero at = omega arith
last_le form area (suc n) at = go (whole? form area at) (last_le form area n (stop_at form area at))
  where
    go : (stop_at form area at ≤ length area) ⊎ (length area < stop_at form area at)
        → stop_at form area at ≤ last_stop (stop_at form area at) (fields_from n form area (stop_at form area at))
        → at ≤ last_stop at (fields_from (suc n) form area at)
    go (inl l) more = rw (fields_first form area n at l) (omega arith)
    go (inr l) more = rw (fields_none form area (suc n) at l) (omega arith)

pub reach_le : (form : Form) (area : List ℕ) (at : ℕ) → at ≤ reach form area at
unfolding reach fields_of
reach_le form area at = last_le form area (length area) at

-- whole fields reach up to a place where none stands
reached : (form : Form) (area : List ℕ) (n at : ℕ) → length area ≤ at + n → length area < stop_at form area (last_stop at (fields_from n form area at))
unfolding fields_from last_stop
reached form area zero at h = omega (arith, head_some form)
reached form area (suc n) at h = go (whole? form area at) (reached form area n (stop_at form area at))
  where
    go : (stop_at form area at ≤ length area) ⊎ (length area < stop_at form area at)
        → (length area ≤ stop_at form area at + n → length area < stop_at form area (last_stop (stop_at form area at) (fields_from n form area (stop_at form area at))))
        → length area < stop_at form area (last_stop at (fields_from (suc n) form area at))
    go (inl l) more = rw (fields_first form area n at l) (more (omega (arith, head_some form)))
    go (inr l) more = rw (fields_none form area (suc n) at l) l

pub reach_stops : (form : Form) (area : List ℕ) (at : ℕ) → length area < stop_at form area (reach form area at)
unfolding reach fields_of
reach_stops form area at = reached form area (length area) at (omega arith)

-- nothing is cut exactly if they reach the end
pub uncut_reach : (form : Form) (area : List ℕ) (at : ℕ) → first_cut form area at ≡ Ok tt → length area ≤ reach form area at
unfolding first_cut
uncut_reach form area at e = go (leb (length area) (reach form area at)) refl e
  where
    go : (c : Bool) → leb (length area) (reach form area at) ≡ c → ◌≡◌ {A = Result (Unit {0}) Cut} (if c then Ok tt else cut_at (reach form area at)) (Ok tt) → length area ≤ reach form area at
    go true p d = leb-true _ _ p
    go false p d = absurd (cc)

pub reach_uncut : (form : Form) (area : List ℕ) (at : ℕ) → length area ≤ reach form area at → first_cut form area at ≡ Ok tt
unfolding first_cut
reach_uncut form area at l = rw (le-leb _ _ l)

-- two parts side by side are one
beside : (s : List ℕ) (at n m : ℕ) → take n (drop at s) ++ take m (drop (at + n) s) ≡ take (n + m) (drop at s)
beside s at n m = ap (λ (x : List ℕ). take n (drop at s) ++ take m x) (sym (drop-drop n at s)) ∙ sym (take-add n m (drop at s))

-- ---- one field

module _ (form : Form) (area : List ℕ) (at : ℕ) (b : Bytes area) (l : stop_at form area at ≤ length area) where
  -- its value is so many bytes behind its head
  pub value_is : value_of (field_at form area at) area ≡ take (length_at form area at) (drop (at + head_bytes form) area)
  value_is =
      let e : stop_at form area at - (at + head_bytes form) ≡ length_at form area at = omega arith in
      sym (within (field_at form area at) area (omega arith) l) ∙ ap (λ (n : ℕ). take n (drop (at + head_bytes form) area)) e

  value_length : length (value_of (field_at form area at) area) ≡ length_at form area at
  value_length =
      ap length value_is ∙ length-take-le (length_at form area at) (drop (at + head_bytes form) area) (omega (arith, length-drop (at + head_bytes form) area))

  head_is : head_of form (tag_at form area at) (length_at form area at) ≡ take (head_bytes form) (drop at area)
  unfolding head_of tag_at length_at
  head_is =
      let T = tag_bytes form in
      let W = length_bytes form in
      ap₂ (λ (x y : List ℕ). x ++ y) (number_bytes area at T b (omega arith)) (number_bytes area (at + T) W b (omega arith)) ∙ beside area at T W

  pub field_is : field_bytes form (tag_at form area at) (value_of (field_at form area at) area) ≡ take (stop_at form area at - at) (drop at area)
  unfolding field_bytes
  field_is =
      let L = length_at form area at in
      let e : head_bytes form + L ≡ stop_at form area at - at = omega arith in
      ap₂ (λ (n : ℕ) (v : List ℕ). head_of form (tag_at form area at) n ++ v) value_length value_is
      ∙ ap (λ (h : List ℕ). h ++ take L (drop (at + head_bytes form) area)) head_is
      ∙ beside area at (head_bytes form) L
      ∙ ap (λ (n : ℕ). take n (drop at area)) e

-- ---- all fields

module _ (form : Form) (area : List ℕ) (b : Bytes area) where
  fields_are : (n at : ℕ) → fields_bytes form (map (shown area) (fields_from n form area at)) ≡ take (last_stop at (fields_from n form area at) - at) (drop at area)
  unfolding fields_from last_stop fields_bytes
  fields_are zero at = ap (λ (n : ℕ). take n (drop at area)) (sym (sub_self at))
  fields_are (suc n) at = go (whole? form area at) (fields_are n (stop_at form area at))
    where
      go : (stop_at form area at ≤ length area) ⊎ (length area < stop_at form area at)
          → fields_bytes form (map (shown area) (fields_from n form area (stop_at form area at)))
          ≡ take (last_stop (stop_at form area at) (fields_from n form area (stop_at form area at)) - stop_at form area at) (drop (stop_at form area at) area)
          → fields_bytes form (map (shown area) (fields_from (suc n) form area at)) ≡ take (last_stop at (fields_from (suc n) form area at) - at) (drop at area)
      go (inl l) more =
          let S = stop_at form area at in
          let Z = last_stop S (fields_from n form area S) in
          let k : S ≤ Z = last_le form area n S in
          let j : at ≤ S = omega arith in
          let e : at + (S - at) ≡ S = omega arith in
          let f : (S - at) + (Z - S) ≡ Z - at = omega arith in
          rw (fields_first form area n at l)
          (ap₂ (λ (x y : List ℕ). x ++ y) (field_is form area at b l) (more ∙ ap (λ (m : ℕ). take (Z - S) (drop m area)) (sym e))
          ∙ beside area at (S - at) (Z - S)
          ∙ ap (λ (m : ℕ). take m (drop at area)) f)
      go (inr l) more = rw (fields_none form area (suc n) at l) (ap (λ (m : ℕ). take m (drop at area)) (sym (sub_self at)))

  -- up to where whole fields reach, cut or not
  pub shown_are : (at : ℕ) → fields_bytes form (shown_from form area at) ≡ take (reach form area at - at) (drop at area)
  unfolding reach fields_of
  shown_are at = fields_are (length area) at

-- ---- all together

-- nothing is cut: up to the area's end
pub fields_are_the_area : (form : Form) (area : List ℕ) (at : ℕ) → Bytes area → first_cut form area at ≡ Ok tt
    → fields_bytes form (shown_from form area at) ≡ drop at area
fields_are_the_area form area at b e =
    let l = uncut_reach form area at e in
    shown_are form area b at ∙ take_all (reach form area at - at) (drop at area) (omega (arith, length-drop at area))

pub uncut_is_walked : UncutIsWalked
unfolding reach
uncut_is_walked form area at rounds b e r =
    let w : walk form area rounds at ≡ fields_of form area at = walk_shows_fields form area at rounds r in
    let l : length area ≤ last_stop at (fields_of form area at) = uncut_reach form area at e in
    let p : last_stop at (walk form area rounds at) ≡ last_stop at (fields_of form area at) = ap (last_stop at) w in
    record {
      shows = w;
      ends = λ (more : ℕ). sym (next_end form area (last_stop at (walk form area rounds at) + more) (omega arith));
      bytes = ap (λ (x : List Field). fields_bytes form (map (shown area) x)) w ∙ fields_are_the_area form area at b e;
    }

pub cut_is_told : CutIsTold
unfolding first_cut reach
cut_is_told form area at rounds place e r = go (leb (length area) (reach form area at)) refl e
  where
    go : (c : Bool) → leb (length area) (reach form area at) ≡ c → ◌≡◌ {A = Result (Unit {0}) Cut} (if c then Ok tt else cut_at (reach form area at)) (cut_at place)
        → Stopped form area at rounds place
    go true p d = absurd (cc)
    go false p d =
        let e : ◌≡◌ {A = Cut} (record { at = reach form area at }) (record { at = place }) = cc in
        let q : reach form area at ≡ place = ap (λ (x : Cut). x.at) e in
        let w : walk form area rounds at ≡ fields_of form area at = walk_shows_fields form area at rounds r in
        let k : place < length area = rw (← q) (leb-false _ _ p) in
        let l : length area < stop_at form area place = rw (← q) (reach_stops form area at) in
        record { shows = w; stops = ap (last_stop at) w ∙ q; cut = sym (next_cut form area place k l); behind = rw (← q) (reach_le form area at); inside = k }

pub step_leads_on : StepLeadsOn
step_leads_on form area at f next e =
    elim (dec_le (length area) at) [
      | yes l ↦ let p = next_end form area at l ∙ e in absurd (cc)
      | no g ↦ go (lt_of_not-le g) (whole? form area at)
    ]
  where
    go : at < length area → (stop_at form area at ≤ length area) ⊎ (length area < stop_at form area at) → Further area at f next
    go k (inl l) =
        let p = next_field_lem form area at l ∙ e in
        let q : ◌≡◌ {A = NextField} (record { field = field_at form area at; next = record { at = stop_at form area at } }) (record { field = f; next = next }) = cc in
        let s : at + head_bytes form ≡ f.start = ap (λ (x : NextField). x.field.start) q in
        let t : stop_at form area at ≡ f.stop = ap (λ (x : NextField). x.field.stop) q in
        let n : stop_at form area at ≡ next.at = ap (λ (x : NextField). x.next.at) q in
        record {
          starts = omega (arith, head_some form);
          stops = omega arith;
          next_is = sym n ∙ t;
          inside = omega arith;
        }
    go k (inr l) = let p = next_cut form area at k l ∙ e in absurd (cc)
