-- Judging a header record, and building one: the rows 13, 3, 4 and 14 of document 01's table.
use Rattle.std.specs.Prelude.{ℕ, ◌^◌, ◌≤◌, ◌<◌, not, List, [], ◌∷◌, eqb}
use Rattle.fields.specs.declared.field.UnsignedByteField.{UnsignedByteField}
use Rattle.fields.specs.declared.field.EntityId.{EntityId}
use Rattle.fields.specs.Width.{is_width, fits_field}
use Rattle.fields.specs.Answer.{Answer, and_then, Test, when, first_of}
use Rattle.header.specs.declared.PduHeader.{PduHeader}
use Rattle.header.specs.declared.judge.HeaderFields.{HeaderFields}
use Rattle.header.specs.Header.{source_id, dest_id}

-- 13: source and destination widths differ
abbrev pub widths_differ : ℕ → ℕ → Test
widths_differ source destination = when (not (eqb source destination)) (13 ∷ source ∷ destination ∷ [])

-- 3: entity width not 1, 2, 4, 8
abbrev pub wrong_entity_width : ℕ → Test
wrong_entity_width w = when (not (is_width w)) (3 ∷ w ∷ [])

-- 4: sequence width not 1, 2, 4, 8
abbrev pub wrong_sequence_width : ℕ → Test
wrong_sequence_width w = when (not (is_width w)) (4 ∷ w ∷ [])

-- 14: value does not fit its width
abbrev pub too_large : UnsignedByteField → Test
too_large f = when (not (fits_field f)) (14 ∷ f.value ∷ f.width ∷ [])

-- 3, 4
abbrev pub width_tests : ℕ → ℕ → List Test
width_tests entity sequence = wrong_entity_width entity ∷ wrong_sequence_width sequence ∷ []

-- 3, 14, of an identifier that has a width of its own (C-01)
unfoldable pub entity_tests : ℕ → EntityId → List Test
entity_tests w id = wrong_entity_width w ∷ too_large (record { width = w; value = id.0 }) ∷ []

-- 3, 4, 14 (for source, then sequence, then destination)
unfoldable pub record_tests : PduHeader → List Test
record_tests h =
    wrong_entity_width h.width
    ∷ wrong_sequence_width h.sequence.0.width
    ∷ too_large (source_id h)
    ∷ too_large h.sequence.0
    ∷ too_large (dest_id h)
    ∷ []

-- judging a record, which has one width for both identifiers
unfoldable pub judging : PduHeader → Answer PduHeader
judging h = first_of (record_tests h) h

-- the record of the fields, under the source's width
abbrev pub header_of : HeaderFields → PduHeader
header_of f =
    record {
      kind = f.kind;
      direction = f.direction;
      mode = f.mode;
      crc = f.crc;
      file = f.file;
      length = f.length;
      control = f.control;
      width = f.source.width;
      metadata = f.metadata;
      source = record { 0 = f.source.value };
      sequence = f.sequence;
      destination = record { 0 = f.destination.value };
    }

-- a record of two identifiers that have a width each: there is one where they agree
unfoldable pub joining : UnsignedByteField → UnsignedByteField → PduHeader → Answer PduHeader
joining source destination h = first_of (widths_differ source.width destination.width ∷ []) h

-- 'Building a record: 13, 3, 4, 14'
unfoldable pub building : UnsignedByteField → UnsignedByteField → PduHeader → Answer PduHeader
building source destination h = and_then (joining source destination h) judging

-- what a record that passed is known to be, for the functions behind the judgement
pub record Sound (h : PduHeader) : Type 0 where
  pub entity_low : 1 ≤ h.width
  pub entity_high : h.width ≤ 8
  pub sequence_low : 1 ≤ h.sequence.0.width
  pub sequence_high : h.sequence.0.width ≤ 8
  pub source_fits : h.source.0 < 256 ^ h.width
  pub sequence_fits : h.sequence.0.value < 256 ^ h.sequence.0.width
  pub destination_fits : h.destination.0 < 256 ^ h.width
