-- The fault location: found in its bytes at each exit, judged, stored, and read back.
-- Assumes nothing.
use Prim.Native.Nat.{ℕ, ◌+◌, ◌-◌, ◌≤◌, ◌<◌}
use mathlib.Core.Path.{◌≡◌, refl, sym, ap, ◌∙◌}
use mathlib.Core.Bool.{true, false}
use mathlib.Core.List.{List, [], ◌∷◌}
use native.Mathlib.Omega.{arith}
use lib.Dec.{lit<}
use Rattle.std.specs.Prelude.{Option, Some, None}
use lib.ListN.{length}
use lib.Seq.{sets}
use borrow.Author.Tests.{eq-eqb, ne_eqb}
use Rattle.fields.specs.Width.{is_width}
use Rattle.fields.specs.BigEndian.{Bytes, be_bytes, number_at, be_at}
use Rattle.fields.specs.Answer.{accepted, told, all_of}
use Rattle.fields.proofs.BigEndian.{be_length, at_number}
use Rattle.fields.proofs.Width.{width_small}
use Rattle.fields.proofs.Judging.{Passed, told_is_refused}
use Rattle.header.proofs.Judging.{sound_id}
use Rattle.tlv.specs.declared.Field.{Field}
use Rattle.tlv.specs.declared.Form.TheVariants.{Tlv}
use Rattle.tlv.specs.Form.{field_bytes}
use Rattle.tlv.specs.Reading.{only_field}
use Rattle.tlv.specs.Writing.{number_put}
use Rattle.tlv.proofs.Reading.{is_only, is_field, field_inside, field_size}
use Rattle.tlv.proofs.Writing.{field_length, put_number_sets}
use Rattle.tlv.proofs.RoundTrip.{only_reads_back, number_reads_back}
use Rattle.eof.specs.declared.fault.EntityIdTlv.{EntityIdTlv}
use Rattle.eof.specs.Fault.{width_of, field_width, not_a_fault, fault_of, locating, fault_bytes, fault_length, fault_tests}

-- ---- the width of the one field

pub no_width : (v : List ℕ) → None ≡ only_field Tlv 6 v 0 → 0 ≡ field_width v
unfolding field_width
no_width v e = ap width_of e

module _ (v : List ℕ) (f : Field) (e : Some f ≡ only_field Tlv 6 v 0) where
  pub only_width : f.stop - f.start ≡ field_width v
  unfolding field_width
  only_width = ap width_of e

  pub only_forwards : f.start ≤ f.stop
  only_forwards = (field_inside Tlv v 0 f (is_only Tlv 6 v 0 f (sym e)).read).stops

  pub only_byte : Bytes v → f.stop - f.start < 256
  only_byte b = field_size Tlv v 0 f b (is_only Tlv 6 v 0 f (sym e)).read

  -- it takes all bytes
  only_fills : 2 + field_width v ≡ length v
  only_fills =
      let o = is_only Tlv 6 v 0 f (sym e) in
      let s : 0 + 2 ≡ f.start = ap (λ (x : Field). x.start) (is_field Tlv v 0 f o.read).1 in
      omega (arith, only_width, only_forwards, o.stop)

fills : (v : List ℕ) → 1 ≤ field_width v → 2 + field_width v ≡ length v
unfolding field_width
fills v l = go (only_field Tlv 6 v 0) refl
  where
    go : (o : Option Field) → o ≡ only_field Tlv 6 v 0 → 2 + field_width v ≡ length v
    go (Some f) e = only_fills v f e
    go None e = absurd (omega (arith, ap width_of e))

-- ---- found

module _ (v : List ℕ) where
  pub fault_nowhere : length v ≡ 0 → accepted None ≡ locating v
  unfolding locating fault_of
  fault_nowhere z = rw (eq-eqb _ _ z)

  module _ (some : length v ≡ 0 → ⊥) (w : ℕ) (pw : w ≡ field_width v) where
    pub fault_other : is_width w ≡ false → told (28 ∷ []) ≡ locating v
    unfolding locating
    fault_other k = rw (told_is_refused 28 _ refl, ne_eqb _ _ some, ← pw, k)

    pub fault_found : (id : ℕ) → is_width w ≡ true → id ≡ be_at v 2 w → accepted (Some (record { width = w; id = record { 0 = id } })) ≡ locating v
    unfolding locating fault_of
    fault_found id k e =
        let s = width_small w k in
        let l : 2 + w ≤ length v = omega (arith, fills v (omega (arith, s.positive, pw)), pw) in
        let n : id ≡ number_at v 2 w = e ∙ at_number v 2 w s.most l in
        rw (n, ne_eqb _ _ some, ← pw, k)

-- ---- judged and stored

module _ (f : Option EntityIdTlv) (t : EntityIdTlv) (p : f ≡ Some t) where
  pub tests_at : all_of (fault_tests (Some t)) ≡ all_of (fault_tests f)
  tests_at = ap (λ (x : Option EntityIdTlv). all_of (fault_tests x)) (sym p)

  pub length_at : 2 + t.width ≡ fault_length f
  length_at = ap fault_length (sym p)

  pub fault_stored : (s b : List ℕ) (at : ℕ) → at + fault_length f ≤ length s → Passed (fault_tests f) → b ≡ number_put Tlv s at 6 t.width t.id.0
      → b ≡ sets s at (fault_bytes f)
  fault_stored s b at room good e =
      let i = sound_id t.width t.id (rw p at good) in
      let m = width_small t.width i.is_width_lem in
      e ∙ put_number_sets Tlv s at 6 t.width t.id.0 m.most i.fits (rw p at room) ∙ ap (λ (x : Option EntityIdTlv). sets s at (fault_bytes x)) (sym p)

pub fault_size : (f : Option EntityIdTlv) → length (fault_bytes f) ≡ fault_length f
fault_size (Some t) = field_length Tlv 6 (be_bytes t.width t.id.0) ∙ ap (λ (n : ℕ). 2 + n) (be_length t.width t.id.0)
fault_size None = refl

pub fault_ten : (f : Option EntityIdTlv) → Passed (fault_tests f) → fault_length f ≤ 10
fault_ten (Some t) good = omega (arith, (width_small t.width (sound_id t.width t.id good).is_width_lem).most)
fault_ten None good = omega arith

-- ---- read back

module _ (t : EntityIdTlv) (good : Passed (fault_tests (Some t))) where
  abbrev X : List ℕ
  X = be_bytes t.width t.id.0

  abbrev Y : List ℕ
  Y = field_bytes Tlv 6 X

  width_back : field_width Y ≡ t.width
  unfolding field_width
  width_back =
      let l : length X ≡ t.width = be_length t.width t.id.0 in
      let m : t.width ≤ 8 = (width_small t.width (sound_id t.width t.id good).is_width_lem).most in
      ap width_of (only_reads_back Tlv [] (6, X) (record { tag = lit< tt; size = omega arith })) ∙ omega arith

  some_bytes : length Y ≡ 0 → ⊥
  some_bytes z = omega (arith, field_length Tlv 6 X)

  at_good : (not_a_fault Y).holds ≡ false
  at_good = rw (ne_eqb _ _ some_bytes, width_back, (sound_id t.width t.id good).is_width_lem)

  at_back : fault_of Y ≡ Some t
  unfolding fault_of
  at_back = rw (ne_eqb _ _ some_bytes, width_back, number_reads_back Tlv 6 t.width t.id.0 (sound_id t.width t.id good).fits)

pub fault_good : (f : Option EntityIdTlv) → Passed (fault_tests f) → (not_a_fault (fault_bytes f)).holds ≡ false
fault_good (Some t) good = at_good t good
fault_good None good = refl

pub fault_back : (f : Option EntityIdTlv) → Passed (fault_tests f) → fault_of (fault_bytes f) ≡ f
unfolding fault_of
fault_back (Some t) good = at_back t good
fault_back None good = refl
