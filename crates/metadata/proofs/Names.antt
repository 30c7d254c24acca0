-- Names and options: found in the data at each exit, and where they lie in it.
-- Assumes nothing.
use Prim.Native.Nat.{ℕ, ◌+◌, ◌≤◌, ◌<◌, ◌^◌}
use mathlib.Core.Path.{◌≡◌, refl, sym, ap, ◌∙◌}
use mathlib.Core.Bool.{true, false}
use mathlib.Core.List.{List, [], ◌∷◌}
use mathlib.Core.Logic.{⊎_elim}
use native.Mathlib.Omega.{arith}
use lib.ListN.{length}
use Rattle.std.specs.Prelude.{Result, Ok, Err, MatchResult}
use Rattle.fields.specs.declared.refusal.Refusal.{Refusal}
use Rattle.fields.specs.declared.refusal.Refusal.TheVariants.{FieldCut}
use Rattle.fields.specs.Refusal.{paper}
use Rattle.fields.specs.Answer.{Answer, accepted, refused, told, first_of}
use Rattle.fields.proofs.Judging.{told_is_refused}
use Rattle.tlv.specs.declared.Field.{Field}
use Rattle.tlv.specs.declared.Form.TheVariants.{Lv, Tlv}
use Rattle.tlv.specs.declared.Cut.{Cut}
use Rattle.tlv.specs.Reading.{stop_at, is_whole, field_in}
use Rattle.tlv.specs.Walking.{fields_of, first_cut}
use Rattle.tlv.proofs.Reading.{whole, not_whole, whole?, field_whole, field_cut, is_field, field_inside}
use Rattle.tlv.proofs.Shown.{cut_is_told}
use Rattle.metadata.specs.declared.read.Names.{Names}
use Rattle.metadata.specs.Metadata.{moved_by, names_in}
use Rattle.metadata.specs.Reading.{name_tests}

-- ---- a cut in the data is told with its place behind `from`

-- the refusal that comes of a cut
pub told_by : {A : Type 0} (r : Result A Cut) (x : Refusal) (from : ℕ) → MatchResult r (λ y. ◌≡◌ {A = Result A Refusal} (Err x) (Ok y)) (λ e. ◌≡◌ {A = Result A Refusal} (Err x) (Err (FieldCut (from + e.at))))
    → (cut : Cut) × ((Err cut ≡ r) × (told {A = Names} (paper x) ≡ told (25 ∷ (from + cut.at) ∷ [])))
told_by (Ok y) x from m = absurd (cc)
told_by (Err cut) x from m = let p : x ≡ FieldCut (from + cut.at) = cc in (cut, (refl, ap (λ (k : Refusal). told {A = Names} (paper k)) p))

-- what is not cut stays as it was read
pub kept : {A : Type 0} (r : Result A Cut) (y : A) (from : ℕ) → MatchResult r (λ x. ◌≡◌ {A = Result A Refusal} (Ok y) (Ok x)) (λ e. ◌≡◌ {A = Result A Refusal} (Ok y) (Err (FieldCut (from + e.at)))) → Ok y ≡ r
kept (Ok x) y from m = let p : y ≡ x = cc in ap Ok p
kept (Err cut) y from m = absurd (cc)

-- ---- one name

module _ (c : List ℕ) (at : ℕ) where
  pub record IsCut (place : ℕ) : Type 0 where
    pub here : place ≡ at
    pub not_all : is_whole Lv c at ≡ false

  pub is_cut : (cut : Cut) → Err cut ≡ field_in Lv c at → IsCut cut.at
  is_cut cut e = ⊎_elim (λ w. contradicted w) (λ l. cut_here l) (whole? Lv c at)
    where
      contradicted : stop_at Lv c at ≤ length c → IsCut cut.at
      contradicted w = let d = e ∙ sym (field_whole Lv c at w) in absurd (cc)

      cut_here : length c < stop_at Lv c at → IsCut cut.at
      cut_here l =
          let d = e ∙ sym (field_cut Lv c at l) in
          let k : ◌≡◌ {A = Cut} cut (record { at = at }) = cc in
          record { here = ap (λ (x : Cut). x.at) k; not_all = not_whole Lv c at l }

  pub is_all : (f : Field) → Ok f ≡ field_in Lv c at → is_whole Lv c at ≡ true
  is_all f e = whole Lv c at (is_field Lv c at f (sym e)).0

  pub stop_is : (f : Field) → Ok f ≡ field_in Lv c at → stop_at Lv c at ≡ f.stop
  stop_is f e = ap (λ (x : Field). x.stop) (is_field Lv c at f (sym e)).1

-- ---- both names, and the options behind them

module _ (from : ℕ) (c : List ℕ) (at : ℕ) (inside : at ≤ length c) (room : from + length c < 2 ^ 64) where
  abbrev answer : Answer Names
  answer = first_of (name_tests from c at) (names_in from c at)

  module _ (cut : Cut) (e : Err cut ≡ field_in Lv c at) where
    pub source_fits : from + cut.at < 2 ^ 64
    source_fits = omega (arith, (is_cut c at cut e).here)

    pub source_cut : told (25 ∷ (from + cut.at) ∷ []) ≡ answer
    unfolding name_tests
    source_cut =
        let k = is_cut c at cut e in
        told_is_refused 25 _ refl ∙ rw k.not_all (ap (λ (n : ℕ). refused (25 ∷ (from + n) ∷ [])) k.here)

  module _ (f : Field) (e : Ok f ≡ field_in Lv c at) where
    source_stop : stop_at Lv c at ≡ f.stop
    source_stop = stop_is c at f e

    pub source_goes : (f.start ≤ f.stop) × (from + f.stop < 2 ^ 64)
    source_goes = let i = field_inside Lv c at f (sym e) in (i.stops, omega (arith, i.inside))

    module _ (cut : Cut) (d : Err cut ≡ field_in Lv c f.stop) where
      pub destination_fits : from + cut.at < 2 ^ 64
      destination_fits = omega (arith, (is_cut c f.stop cut d).here, source_goes.1)

      pub destination_cut : told (25 ∷ (from + cut.at) ∷ []) ≡ answer
      unfolding name_tests
      destination_cut =
          let k = is_cut c (stop_at Lv c at) cut (d ∙ ap (field_in Lv c) (sym source_stop)) in
          told_is_refused 25 _ refl ∙ rw (is_all c at f e, k.not_all) (ap (λ (n : ℕ). refused (25 ∷ (from + n) ∷ [])) k.here)

    module _ (g : Field) (d : Ok g ≡ field_in Lv c f.stop) where
      second : Ok g ≡ field_in Lv c (stop_at Lv c at)
      second = d ∙ ap (field_in Lv c) (sym source_stop)

      second_stop : stop_at Lv c (stop_at Lv c at) ≡ g.stop
      second_stop = stop_is c (stop_at Lv c at) g second

      pub destination_goes : (g.start ≤ g.stop) × (from + g.stop < 2 ^ 64)
      destination_goes = let i = field_inside Lv c f.stop g (sym d) in (i.stops, omega (arith, i.inside))

      module _ (cut : Cut) (o : Err cut ≡ first_cut Tlv c g.stop) where
        pub option_fits : from + cut.at < 2 ^ 64
        option_fits = let k = cut_is_told Tlv c g.stop (length (fields_of Tlv c g.stop)) cut.at (sym o) (omega arith) in omega (arith, k.inside)

        pub option_cut_lem : told (25 ∷ (from + cut.at) ∷ []) ≡ answer
        unfolding name_tests
        option_cut_lem =
            let k : Err cut ≡ first_cut Tlv c (stop_at Lv c (stop_at Lv c at)) = o ∙ ap (first_cut Tlv c) (sym second_stop) in
            told_is_refused 25 _ refl ∙ rw (is_all c at f e, is_all c (stop_at Lv c at) g second, ← k)

      pub names_found : (x y : _) → x ≡ moved_by from f → y ≡ moved_by from g → Ok tt ≡ first_cut Tlv c g.stop
          → accepted (record { source = x; destination = y; options = from + g.stop }) ≡ answer
      unfolding name_tests names_in
      names_found x y px py o =
          let k : Ok tt ≡ first_cut Tlv c (stop_at Lv c (stop_at Lv c at)) = o ∙ ap (first_cut Tlv c) (sym second_stop) in
          let qx = px ∙ ap (moved_by from) (sym (is_field Lv c at f (sym e)).1) in
          let qy = py ∙ ap (moved_by from) (sym (is_field Lv c (stop_at Lv c at) g (sym second)).1) in
          let qz = ap (λ (n : ℕ). from + n) (sym second_stop) in
          rw (is_all c at f e, is_all c (stop_at Lv c at) g second, ← k) (λ i. accepted (record { source = qx i; destination = qy i; options = qz i }))

-- ---- what the proofs of these functions cite

pub ruleset for_names_in = (told_by, kept, source_cut, destination_cut, option_cut_lem, names_found)
