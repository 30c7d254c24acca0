-- An area that is a part of other bytes, from a place on or up to one: its fields are those that stand there, each so much further on.
-- Assumes nothing.
use Prim.Native.Nat.{ℕ, zero, suc, ◌+◌, ◌-◌, ◌≤◌, ◌<◌}
use mathlib.Core.Path.{◌≡◌, refl, sym, ap, ap₂, ◌∙◌}
use mathlib.Core.Logic.{◌⊎◌, inl, inr}
use mathlib.Core.List.{List, ◌∷◌, ◌++◌, map}
use native.Mathlib.Decide.{dec_le}
use native.Mathlib.Nat.{add-zero, add_assoc, lt_of_not-le}
use native.Mathlib.Omega.{arith}
use lib.ListN.{length, drop, take, length-drop, length-append}
use lib.Seq.{drop-drop, length-take-le}
use borrow.Author.Tests.{le-leb, lt-leb}
use Rattle.fields.specs.BigEndian.{number_at}
use Rattle.fields.proofs.BigEndian.{number_append, number_behind, part_take}
use Rattle.tlv.specs.declared.Form.{Form}
use Rattle.tlv.specs.declared.Field.{Field}
use Rattle.std.specs.Prelude.{Ok}
use Rattle.tlv.specs.Form.{tag_bytes, length_bytes, head_bytes}
use Rattle.tlv.specs.Reading.{tag_at, length_at, stop_at, field_at, cut_at, value_of, shown}
use Rattle.tlv.specs.Walking.{fields_from, fields_of, last_stop, reach, first_cut}
use Rattle.tlv.specs.Parts.{further_on, PartShows, ValueBefore, WholeStays}
use Rattle.tlv.proofs.Reading.{whole?, field_whole, is_field, backwards, within}
use Rattle.tlv.proofs.Walking.{fields_none, fields_first, fields_enough}

-- ---- from a place on

module _ (form : Form) (s : List ℕ) (p : ℕ) (inside : p ≤ length s) where
  abbrev D : List ℕ
  D = drop p s

  size : length D ≡ length s - p
  size = length-drop p s

  tag_there : (at : ℕ) → tag_at form D at ≡ tag_at form s (p + at)
  unfolding tag_at
  tag_there at = number_behind s p at (tag_bytes form)

  length_there : (at : ℕ) → length_at form D at ≡ length_at form s (p + at)
  unfolding length_at
  length_there at =
      number_behind s p (at + tag_bytes form) (length_bytes form) ∙ ap (λ (n : ℕ). number_at s n (length_bytes form)) (sym (add_assoc p at (tag_bytes form)))

  stop_there : (at : ℕ) → p + stop_at form D at ≡ stop_at form s (p + at)
  stop_there at = omega (arith, length_there at)

  -- a whole field shows the same
  shows_there : (at : ℕ) → stop_at form D at ≤ length D → shown D (field_at form D at) ≡ shown s (field_at form s (p + at))
  shows_there at l =
      let L = length_at form s (p + at) in
      let k : stop_at form s (p + at) ≤ length s = omega (arith, stop_there at, size) in
      let m : stop_at form D at - (at + head_bytes form) ≡ L = omega (arith, length_there at) in
      let n : stop_at form s (p + at) - (p + at + head_bytes form) ≡ L = omega arith in
      let q : p + (at + head_bytes form) ≡ p + at + head_bytes form = omega arith in
      let v : value_of (field_at form D at) D ≡ take (stop_at form D at - (at + head_bytes form)) (drop (at + head_bytes form) D) = sym
      (within (field_at form D at) D (omega arith) l) in
      let u : value_of (field_at form s (p + at)) s ≡ take (stop_at form s (p + at) - (p + at + head_bytes form)) (drop (p + at + head_bytes form) s) =
      sym (within (field_at form s (p + at)) s (omega arith) k) in
      let w : take (stop_at form D at - (at + head_bytes form)) (drop (at + head_bytes form) D) ≡ take
      (stop_at form s (p + at) - (p + at + head_bytes form)) (drop (p + at + head_bytes form) s) =
      ap₂ (λ (a : ℕ) (b : List ℕ). take a b) (m ∙ sym n) (drop-drop (at + head_bytes form) p s ∙ ap (λ (j : ℕ). drop j s) q) in
      let x : value_of (field_at form D at) D ≡ value_of (field_at form s (p + at)) s = v ∙ w ∙ sym u in
      λ i. (tag_there at i, x i)

  fields_there : (n at : ℕ)
      → (map (shown D) (fields_from n form D at) ≡ map (shown s) (fields_from n form s (p + at))) × (p + last_stop at (fields_from n form D at) ≡ last_stop (p + at) (fields_from n form s (p + at)))
  unfolding fields_from last_stop
  fields_there zero at = (refl, refl)
  fields_there (suc n) at = go (whole? form D at) (fields_there n (stop_at form D at))
    where
      go : (stop_at form D at ≤ length D) ⊎ (length D < stop_at form D at)
          → (map (shown D) (fields_from n form D (stop_at form D at)) ≡ map (shown s) (fields_from n form s (p + stop_at form D at)))
          ×
          (p + last_stop (stop_at form D at) (fields_from n form D (stop_at form D at)) ≡ last_stop (p + stop_at form D at)
          (fields_from n form s (p + stop_at form D at)))
          → (map (shown D) (fields_from (suc n) form D at) ≡ map (shown s) (fields_from (suc n) form s (p + at)))
          × (p + last_stop at (fields_from (suc n) form D at) ≡ last_stop (p + at) (fields_from (suc n) form s (p + at)))
      go (inl l) more =
          let k : stop_at form s (p + at) ≤ length s = omega (arith, stop_there at, size) in
          let e = stop_there at in (
            ap (map (shown D)) (fields_first form D n at l)
                ∙ ap₂ (λ (a : ℕ × List ℕ) (b : List (ℕ × List ℕ)). a ∷ b) (shows_there at l) (more.0 ∙ ap (λ (j : ℕ). map (shown s) (fields_from n form s j)) e)
                ∙ ap (map (shown s)) (sym (fields_first form s n (p + at) k)),
            ap (λ (x : List Field). p + last_stop at x) (fields_first form D n at l)
                ∙ more.1
                ∙ ap (λ (j : ℕ). last_stop j (fields_from n form s j)) e
                ∙ ap (last_stop (p + at)) (sym (fields_first form s n (p + at) k)),
          )
      go (inr l) more =
          let k : length s < stop_at form s (p + at) = omega (arith, stop_there at, size) in (
            ap (map (shown D)) (fields_none form D (suc n) at l) ∙ ap (map (shown s)) (sym (fields_none form s (suc n) (p + at) k)),
            ap (λ (x : List Field). p + last_stop at x) (fields_none form D (suc n) at l) ∙ ap (last_stop (p + at)) (sym (fields_none form s (suc n) (p + at) k)),
          )

  same_fields : fields_from (length D) form s (p + 0) ≡ fields_of form s p
  unfolding fields_of
  same_fields = ap (fields_from (length D) form s) (add-zero p) ∙ fields_enough form s (length D) (length s) p (omega (arith, size)) (omega arith)

  same_reach : p + reach form D 0 ≡ reach form s p
  unfolding reach fields_of
  same_reach = (fields_there (length D) 0).1 ∙ ap₂ last_stop (add-zero p) same_fields

  same_cut : first_cut form s p ≡ further_on p (first_cut form D 0)
  unfolding first_cut
  same_cut =
      elim (dec_le (length D) (reach form D 0)) [
        | yes l ↦
            let k : length s ≤ reach form s p = omega (arith, size, same_reach) in
            rw (le-leb (length D) (reach form D 0) l, le-leb (length s) (reach form s p) k)
        | no g ↦
            let l : reach form D 0 < length D = lt_of_not-le g in
            let k : reach form s p < length s = omega (arith, size, same_reach) in
            rw (lt-leb (length D) (reach form D 0) l, lt-leb (length s) (reach form s p) k) (ap cut_at (sym same_reach))
      ]

pub part_shows : PartShows
unfolding fields_of
part_shows form s at l =
    record {
      shows = (fields_there form s at l (length (drop at s)) 0).0 ∙ ap (map (shown s)) (same_fields form s at l);
      cut = same_cut form s at l;
    }

-- ---- up to a place

pub value_before : ValueBefore
value_before s n f k l =
    let m : length (take n s) ≡ n = length-take-le n s k in
    elim (dec_le f.start f.stop) [
      | yes h ↦
          sym (within f (take n s) h (omega arith)) ∙ part_take s n f.start (f.stop - f.start) (omega arith) ∙ within f s h (omega arith)
      | no g ↦ sym (backwards f (take n s) (lt_of_not-le g)) ∙ backwards f s (lt_of_not-le g)
    ]

length_stays : (form : Form) (area t : List ℕ) (at : ℕ) → at + head_bytes form ≤ length area → length_at form (area ++ t) at ≡ length_at form area at
unfolding length_at
length_stays form area t at l = number_append area t (at + tag_bytes form) (length_bytes form) (omega arith)

tag_stays : (form : Form) (area t : List ℕ) (at : ℕ) → at + head_bytes form ≤ length area → tag_at form (area ++ t) at ≡ tag_at form area at
unfolding tag_at
tag_stays form area t at l = number_append area t at (tag_bytes form) (omega arith)

pub whole_stays : WholeStays
whole_stays form area t at f e =
    let l = (is_field form area at f e).0 in
    let q = (is_field form area at f e).1 in
    let n : length_at form (area ++ t) at ≡ length_at form area at = length_stays form area t at (omega arith) in
    let g : tag_at form (area ++ t) at ≡ tag_at form area at = tag_stays form area t at (omega arith) in
    let s : stop_at form (area ++ t) at ≡ stop_at form area at = ap (λ (x : ℕ). at + head_bytes form + x) n in
    let k : stop_at form (area ++ t) at ≤ length (area ++ t) = omega (arith, length-append area t) in
    sym (field_whole form (area ++ t) at k) ∙ (λ i. Ok (record { tag = g i; start = at + head_bytes form; stop = s i })) ∙ ap Ok q
