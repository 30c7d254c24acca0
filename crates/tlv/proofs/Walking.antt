-- What stands at a cursor, from what is read there; the fields from a place on, the first and those behind it; and the turns of the loop that looks for one that is cut.
-- Assumes nothing.
use Prim.Native.Nat.{ℕ, zero, suc, ◌+◌, ◌≤◌, ◌<◌}
use mathlib.Core.Path.{◌≡◌, refl, sym, ap, ◌∙◌}
use mathlib.Core.Logic.{◌⊎◌, inl, inr}
use mathlib.Core.List.{List, [], ◌∷◌}
use native.Mathlib.Omega.{arith}
use lib.ListN.{length}
use borrow.Author.Tests.{le-leb, lt-leb}
use Rattle.std.specs.Prelude.{Some, None, Ok, Err}
use Rattle.tlv.specs.declared.Form.{Form}
use Rattle.tlv.specs.declared.Field.{Field}
use Rattle.tlv.specs.declared.Cut.{Cut}
use Rattle.tlv.specs.Reading.{stop_at, field_at, cut_at, field_in}
use Rattle.tlv.specs.Within.{behind}
use Rattle.tlv.specs.Walking.{fields_from, fields_of, last_stop, reach, first_cut, next_field}
use Rattle.tlv.proofs.Reading.{head_some, whole, not_whole, whole?, field_whole, field_cut, none_behind, some_behind}

-- ---- one step

module _ (form : Form) (area : List ℕ) (at : ℕ) where
  pub next_end : length area ≤ at → Ok None ≡ next_field form area at
  unfolding next_field
  next_end l = rw (le-leb _ _ l)

  pub next_field_lem : stop_at form area at ≤ length area
      → Ok (Some (record { field = field_at form area at; next = record { at = stop_at form area at } })) ≡ next_field form area at
  unfolding next_field
  next_field_lem l =
      let k : at < length area = omega (arith, head_some form) in
      rw (lt-leb _ _ k, whole form area at l)

  pub next_cut : at < length area → length area < stop_at form area at → cut_at at ≡ next_field form area at
  unfolding next_field
  next_cut k l = rw (lt-leb _ _ k, not_whole form area at l)

  -- from what is read there
  pub read_field : (f : Field) → Ok f ≡ field_in form area at → Ok (Some (record { field = f; next = record { at = f.stop } })) ≡ next_field form area at
  read_field f e = go (whole? form area at)
    where
      go : (stop_at form area at ≤ length area) ⊎ (length area < stop_at form area at)
          → Ok (Some (record { field = f; next = record { at = f.stop } })) ≡ next_field form area at
      go (inl l) =
          let p = e ∙ sym (field_whole form area at l) in
          let q : f ≡ field_at form area at = cc in
          ap (λ (x : Field). Ok (Some (record { field = x; next = record { at = x.stop } }))) q ∙ next_field_lem l
      go (inr l) = let p = e ∙ sym (field_cut form area at l) in absurd (cc)

  pub read_cut : (cut : Cut) → at < length area → Err cut ≡ field_in form area at → Err cut ≡ next_field form area at
  read_cut cut k e = go (whole? form area at)
    where
      go : (stop_at form area at ≤ length area) ⊎ (length area < stop_at form area at) → Err cut ≡ next_field form area at
      go (inl l) = let p = e ∙ sym (field_whole form area at l) in absurd (cc)
      go (inr l) =
          let p = e ∙ sym (field_cut form area at l) in
          let q : cut ≡ record { at = at } = cc in
          ap Err q ∙ next_cut k l

-- ---- the fields from a place

module _ (form : Form) (area : List ℕ) where
  pub fields_none : (n at : ℕ) → length area < stop_at form area at → fields_from n form area at ≡ []
  unfolding fields_from
  fields_none zero at l = refl
  fields_none (suc n) at l = rw (not_whole form area at l)

  pub fields_first : (n at : ℕ) → stop_at form area at ≤ length area
      → fields_from (suc n) form area at ≡ field_at form area at ∷ fields_from n form area (stop_at form area at)
  unfolding fields_from
  fields_first n at l = rw (whole form area at l)

  -- how many are asked for does not matter, once there are as many as bytes
  pub fields_enough : (m n at : ℕ) → length area ≤ at + m → length area ≤ at + n → fields_from m form area at ≡ fields_from n form area at
  unfolding fields_from
  fields_enough zero n at h k = sym (fields_none n at (omega (arith, head_some form)))
  fields_enough (suc m) zero at h k = fields_none (suc m) at (omega (arith, head_some form))
  fields_enough (suc m) (suc n) at h k = go (whole? form area at) (fields_enough m n (stop_at form area at))
    where
      go : (stop_at form area at ≤ length area) ⊎ (length area < stop_at form area at)
          → (length area ≤ stop_at form area at + m → length area ≤ stop_at form area at + n → fields_from m form area (stop_at form area at) ≡ fields_from n form area (stop_at form area at))
          → fields_from (suc m) form area at ≡ fields_from (suc n) form area at
      go (inl l) more =
          fields_first m at l
          ∙ ap (λ (x : List Field). field_at form area at ∷ x) (more (omega (arith, head_some form)) (omega (arith, head_some form)))
          ∙ sym (fields_first n at l)
      go (inr l) more = fields_none (suc m) at l ∙ sym (fields_none (suc n) at l)

  -- the first and those behind it
  pub of_first : (at : ℕ) → stop_at form area at ≤ length area → fields_of form area at ≡ field_at form area at ∷ fields_of form area (stop_at form area at)
  unfolding fields_of
  of_first at l =
      fields_enough (length area) (suc (length area)) at (omega arith) (omega arith) ∙ fields_first (length area) at l

  pub of_none : (at : ℕ) → length area < stop_at form area at → fields_of form area at ≡ []
  unfolding fields_of
  of_none at l = fields_none (length area) at l

  -- ---- the loop of the code

  pub reach_on : (at : ℕ) → stop_at form area at ≤ length area → reach form area (stop_at form area at) ≡ reach form area at
  unfolding reach last_stop
  reach_on at l = sym (ap (last_stop at) (of_first at l))

  pub reach_here : (at : ℕ) → length area < stop_at form area at → at ≡ reach form area at
  unfolding reach last_stop
  reach_here at l = sym (ap (last_stop at) (of_none at l))

  -- a turn goes further, and never beyond the area
  pub behind_in : (at v : ℕ) → Some v ≡ behind form area at → (at < v) × (v ≤ length area)
  behind_in at v e =
      let b = some_behind form area at v e in
      (omega (arith, head_some form), omega arith)

  -- a turn goes on from the place behind a field
  pub cut_turn : (at v from : ℕ) → Some v ≡ behind form area at → reach form area at ≡ reach form area from → reach form area v ≡ reach form area from
  cut_turn at v from e p =
      let b = some_behind form area at v e in
      ap (reach form area) b.1 ∙ reach_on at b.0 ∙ p

  cut_reach : (at from : ℕ) → None ≡ behind form area at → reach form area at ≡ reach form area from → at ≡ reach form area from
  cut_reach at from e p = reach_here at (none_behind form area at e) ∙ p

  pub cut_none : (at from : ℕ) → None ≡ behind form area at → reach form area at ≡ reach form area from → length area ≤ at → Ok tt ≡ first_cut form area from
  unfolding first_cut
  cut_none at from e p l = rw (← cut_reach at from e p, le-leb _ _ l)

  pub cut_some : (at from : ℕ) → None ≡ behind form area at → reach form area at ≡ reach form area from → at < length area → cut_at at ≡ first_cut form area from
  unfolding first_cut
  cut_some at from e p l = rw (← cut_reach at from e p, lt-leb _ _ l)

-- what the loop cites
pub ruleset turns = (behind_in, cut_turn, cut_none, cut_some)
