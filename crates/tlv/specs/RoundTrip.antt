-- What is written reads back: one field between other bytes, one that takes all bytes, and fields one behind the other.
use Rattle.std.specs.Prelude.{ℕ, ◌+◌, ◌^◌, ◌<◌, ◌≡◌, List, [], ◌∷◌, ◌++◌, length, drop, Some, Ok}
use Rattle.fields.specs.BigEndian.{Bytes}
use Rattle.tlv.specs.declared.Form.{Form}
use Rattle.tlv.specs.declared.Field.{Field}
use Rattle.tlv.specs.Form.{tag_bytes, length_bytes, head_bytes, field_bytes, fields_bytes}
use Rattle.tlv.specs.Reading.{field_in, only_field, value_of}
use Rattle.tlv.specs.Walking.{shown_from, first_cut}

-- a type and a length that their bytes can say
pub record Fits (form : Form) (p : ℕ × List ℕ) : Type 0 where
  pub tag : p.0 < 256 ^ tag_bytes form
  pub size : length p.1 < 256 ^ length_bytes form

-- the field that is so written at a place
abbrev pub placed : Form → ℕ → ℕ × List ℕ → Field
placed form at p = record { tag = p.0; start = at + head_bytes form; stop = at + head_bytes form + length p.1 }

-- it is read there, and its value is shown
pub record ReadsBack (form : Form) (s : List ℕ) (at : ℕ) (p : ℕ × List ℕ) : Type 0 where
  pub read : field_in form s at ≡ Ok (placed form at p)
  pub value : value_of (placed form at p) s ≡ p.1

abbrev pub FieldReadsBack : Type 0
FieldReadsBack = (form : Form) (pre post : List ℕ) (p : ℕ × List ℕ) → Fits form p → ReadsBack form (pre ++ (field_bytes form p.0 p.1 ++ post)) (length pre) p

-- one with nothing behind it is the only one, and the only one has nothing behind it
abbrev pub OnlyReadsBack : Type 0
OnlyReadsBack = (form : Form) (pre : List ℕ) (p : ℕ × List ℕ) → Fits form p → only_field form p.0 (pre ++ field_bytes form p.0 p.1) (length pre) ≡ Some (placed form (length pre) p)

abbrev pub OnlyIsAll : Type 0
OnlyIsAll = (form : Form) (tag : ℕ) (area : List ℕ) (at : ℕ) (f : Field) → Bytes area → only_field form tag area at ≡ Some f → drop at area ≡ field_bytes form tag (value_of f area)

-- each of a list fits
abbrev pub AllFit : Form → List (ℕ × List ℕ) → Type 0
AllFit form [] = Unit {0}
AllFit form (p ∷ ps) = Fits form p × AllFit form ps

-- fields that were written one behind the other are shown, those and no others, and none is cut
pub record AllBack (form : Form) (s : List ℕ) (at : ℕ) (ps : List (ℕ × List ℕ)) : Type 0 where
  pub shows : shown_from form s at ≡ ps
  pub uncut : first_cut form s at ≡ Ok tt

abbrev pub FieldsReadBack : Type 0
FieldsReadBack = (form : Form) (pre : List ℕ) (ps : List (ℕ × List ℕ)) → AllFit form ps → AllBack form (pre ++ fields_bytes form ps) (length pre) ps
