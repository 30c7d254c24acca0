-- Judging a record: its answer at each test, and what a record that passed is known to be.
-- Assumes nothing.
use Prim.Native.Nat.{ℕ, ◌^◌, ◌<◌}
use mathlib.Core.Path.{◌≡◌, refl, sym, ap, ◌∙◌}
use mathlib.Core.Bool.{true, false}
use mathlib.Core.List.{List, [], ◌∷◌, ◌++◌}
use borrow.Author.Tests.{eq-eqb, ne_eqb, not-false}
use Rattle.fields.specs.declared.field.UnsignedByteField.{UnsignedByteField}
use Rattle.fields.specs.declared.field.EntityId.{EntityId}
use Rattle.fields.specs.Width.{is_width, fits_field}
use Rattle.fields.specs.Answer.{Answer, accepted, told, and_then, Test, first_of, all_of}
use Rattle.fields.proofs.Width.{width_small, fits_lt}
use Rattle.fields.proofs.Judging.{Passed, passed, judged_passed, refused_on, told_on, told_is_refused}
use Rattle.header.specs.declared.PduHeader.{PduHeader}
use Rattle.header.specs.declared.flags.Direction.{Direction}
use Rattle.header.specs.declared.flags.LargeFileFlag.{LargeFileFlag}
use Rattle.header.specs.Header.{source_id, dest_id, with_direction, with_file_flag, with_length}
use Rattle.header.specs.Judging.{wrong_entity_width, wrong_sequence_width, too_large, width_tests, entity_tests, record_tests, judging, joining, building, Sound}

-- ---- the two widths

module _ (entity : ℕ) where
  pub bad_entity : is_width entity ≡ false → told (3 ∷ entity ∷ []) ≡ all_of (wrong_entity_width entity ∷ [])
  bad_entity w = rw (told_is_refused 3 _ refl, w)

  pub good_entity : is_width entity ≡ true → accepted tt ≡ all_of (wrong_entity_width entity ∷ [])
  good_entity w = rw w

  pub refused_entity : (sequence : ℕ) (ns : List ℕ) → told ns ≡ all_of (wrong_entity_width entity ∷ []) → told ns ≡ all_of (width_tests entity sequence)
  refused_entity sequence ns e = refused_on ns (wrong_entity_width entity ∷ []) (wrong_sequence_width sequence ∷ []) tt tt e

  module _ (e : accepted tt ≡ all_of (wrong_entity_width entity ∷ [])) where
    width_is : (wrong_entity_width entity).holds ≡ false
    width_is = (judged_passed (wrong_entity_width entity ∷ []) e).0

    module _ (sequence : ℕ) where
      pub bad_sequence : is_width sequence ≡ false → told (4 ∷ sequence ∷ []) ≡ all_of (width_tests entity sequence)
      bad_sequence w = rw (told_is_refused 4 _ refl, width_is, w)

      pub both_widths : is_width sequence ≡ true → accepted tt ≡ all_of (width_tests entity sequence)
      both_widths w = rw (width_is, w)

    -- ---- an identifier that has a width of its own

    module _ (id : EntityId) (field : UnsignedByteField) (is : field ≡ record { width = entity; value = id.0 }) where
      pub bad_id : fits_field field ≡ false → told (14 ∷ field.value ∷ field.width ∷ []) ≡ all_of (entity_tests entity id)
      unfolding entity_tests
      bad_id f = rw (told_is_refused 14 _ refl, is, width_is, rw is at f)

      pub good_id : fits_field field ≡ true → accepted tt ≡ all_of (entity_tests entity id)
      unfolding entity_tests
      good_id f = rw (width_is, rw is at f)

pub refused_width : (w : ℕ) (id : EntityId) (ns : List ℕ) → told ns ≡ all_of (wrong_entity_width w ∷ []) → told ns ≡ all_of (entity_tests w id)
unfolding entity_tests
refused_width w id ns e = refused_on ns (wrong_entity_width w ∷ []) (too_large (record { width = w; value = id.0 }) ∷ []) tt tt e

-- one that passed
pub record SoundId (w : ℕ) (id : EntityId) : Type 0 where
  pub is_width_lem : is_width w ≡ true
  pub fits : id.0 < 256 ^ w

pub sound_id : (w : ℕ) (id : EntityId) → Passed (entity_tests w id) → SoundId w id
unfolding entity_tests
sound_id w id p = record { is_width_lem = not-false _ p.0; fits = fits_lt _ _ (not-false _ p.1.0) }

-- ---- the record

module _ (h : PduHeader) where
  pub bad_widths : (ns : List ℕ) → told ns ≡ all_of (width_tests h.width h.sequence.0.width) → told ns ≡ judging h
  unfolding judging record_tests
  bad_widths ns e =
      refused_on ns (width_tests h.width h.sequence.0.width) (too_large (source_id h) ∷ too_large h.sequence.0 ∷ too_large (dest_id h) ∷ []) tt h e

  module _ (w : Passed (width_tests h.width h.sequence.0.width)) where
    pub large_source : fits_field (source_id h) ≡ false → told (14 ∷ h.source.0 ∷ h.width ∷ []) ≡ judging h
    unfolding judging record_tests
    large_source f = rw (told_is_refused 14 _ refl, w.0, w.1.0, f)

    module _ (source_fits : fits_field (source_id h) ≡ true) where
      pub large_sequence : fits_field h.sequence.0 ≡ false → told (14 ∷ h.sequence.0.value ∷ h.sequence.0.width ∷ []) ≡ judging h
      unfolding judging record_tests
      large_sequence f = rw (told_is_refused 14 _ refl, w.0, w.1.0, source_fits, f)

      module _ (sequence_fits : fits_field h.sequence.0 ≡ true) where
        pub large_destination : fits_field (dest_id h) ≡ false → told (14 ∷ h.destination.0 ∷ h.width ∷ []) ≡ judging h
        unfolding judging record_tests
        large_destination f = rw (told_is_refused 14 _ refl, w.0, w.1.0, source_fits, sequence_fits, f)

        pub all_right : fits_field (dest_id h) ≡ true → accepted h ≡ judging h
        unfolding judging record_tests
        all_right f = rw (w.0, w.1.0, source_fits, sequence_fits, f)

-- ---- two identifiers that have a width each

module _ (source destination : UnsignedByteField) (h : PduHeader) where
  pub widths_differ_lem : (source.width ≡ destination.width → ⊥) → told (13 ∷ source.width ∷ destination.width ∷ []) ≡ joining source destination h
  unfolding joining
  widths_differ_lem n = rw (told_is_refused 13 _ refl, ne_eqb _ _ n)

  pub widths_agree : source.width ≡ destination.width → accepted h ≡ joining source destination h
  unfolding joining
  widths_agree e = rw (eq-eqb _ _ e)

  -- what is refused for its widths is not built, and behind widths that agree the record's judgement decides
  pub refused_building : (ns : List ℕ) → told ns ≡ joining source destination h → told ns ≡ building source destination h
  unfolding building
  refused_building ns e = sym (told_on ns judging) ∙ ap (λ (o : Answer PduHeader). and_then o judging) e

  pub joined_building : (k : PduHeader) → accepted k ≡ joining source destination h → judging k ≡ building source destination h
  unfolding building
  joined_building k e = ap (λ (o : Answer PduHeader). and_then o judging) e

-- ---- for those behind the judgement

-- what the judgement of a record refuses, every judgement that begins with it refuses alike
pub refused_first : {A : Type 0} (h : PduHeader) (us : List Test) (a : A) (ns : List ℕ) → told ns ≡ judging h → told ns ≡ first_of (record_tests h ++ us) a
unfolding judging
refused_first h us a ns e = refused_on ns (record_tests h) us h a e

-- a record that was accepted passed every test
pub passed_tests : (h k : PduHeader) → accepted k ≡ judging h → Passed (record_tests h)
unfolding judging
passed_tests h k e = (passed (record_tests h) k h e).0

pub sound : (h : PduHeader) → Passed (record_tests h) → Sound h
unfolding record_tests
sound h p =
    let entity = width_small _ (not-false _ p.0) in
    let sequence = width_small _ (not-false _ p.1.0) in
    record {
      entity_low = entity.positive;
      entity_high = entity.most;
      sequence_low = sequence.positive;
      sequence_high = sequence.most;
      source_fits = fits_lt _ _ (not-false _ p.1.1.0);
      sequence_fits = fits_lt _ _ (not-false _ p.1.1.1.0);
      destination_fits = fits_lt _ _ (not-false _ p.1.1.1.1.0);
    }

-- direction, file flag and length are not judged
pub with_tests : (d : Direction) (f : LargeFileFlag) (l : ℕ) (h : PduHeader) → record_tests (with_length l (with_file_flag f (with_direction d h))) ≡ record_tests h
unfolding record_tests
with_tests d f l h = refl
