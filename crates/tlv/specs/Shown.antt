-- What a walk shows: the fields, then the end for ever, or the one that is cut. The bytes of what is shown are those that were walked.
use Rattle.std.specs.Prelude.{ℕ, zero, suc, ◌+◌, ◌≤◌, ◌<◌, ◌≡◌, List, [], ◌∷◌, map, length, drop, Option, Some, None, Result, Ok, Err}
use Rattle.fields.specs.BigEndian.{Bytes}
use Rattle.tlv.specs.declared.Form.{Form}
use Rattle.tlv.specs.declared.Field.{Field}
use Rattle.tlv.specs.declared.walk.FieldCursor.{FieldCursor}
use Rattle.tlv.specs.declared.walk.NextField.{NextField}
use Rattle.tlv.specs.declared.Cut.{Cut}
use Rattle.tlv.specs.Form.{fields_bytes}
use Rattle.tlv.specs.Reading.{cut_at, shown}
use Rattle.tlv.specs.Walking.{fields_of, last_stop, first_cut, next_field}

-- the fields of a walk from a place, in at most `rounds` steps
abbrev pub step_on : Result (Option NextField) Cut → (ℕ → List Field) → List Field
step_on (Ok (Some step)) more = step.field ∷ more step.next.at
step_on (Ok None) more = []
step_on (Err cut) more = []

unfoldable pub walk : Form → List ℕ → ℕ → ℕ → List Field
walk form area zero at = []
walk form area (suc rounds) at = step_on (next_field form area at) (walk form area rounds)

-- where no field is cut: all fields, then the end for ever; and their bytes, one behind the other, are the area from there on
pub record Walked (form : Form) (area : List ℕ) (at rounds : ℕ) : Type 0 where
  pub shows : walk form area rounds at ≡ fields_of form area at
  pub ends : (more : ℕ) → next_field form area (last_stop at (walk form area rounds at) + more) ≡ Ok None
  pub bytes : fields_bytes form (map (shown area) (walk form area rounds at)) ≡ drop at area

abbrev pub UncutIsWalked : Type 0
UncutIsWalked =
    (form : Form) (area : List ℕ) (at rounds : ℕ) → Bytes area → first_cut form area at ≡ Ok tt → length (fields_of form area at) ≤ rounds → Walked form area at rounds

-- where one is cut: the fields before it, and then that it is
pub record Stopped (form : Form) (area : List ℕ) (at rounds place : ℕ) : Type 0 where
  pub shows : walk form area rounds at ≡ fields_of form area at
  pub stops : last_stop at (walk form area rounds at) ≡ place
  pub cut : next_field form area place ≡ cut_at place
  pub behind : at ≤ place
  pub inside : place < length area

abbrev pub CutIsTold : Type 0
CutIsTold = (form : Form) (area : List ℕ) (at rounds place : ℕ) → first_cut form area at ≡ cut_at place → length (fields_of form area at) ≤ rounds → Stopped form area at rounds place

-- a walk ends: each step leads further on, and not beyond the area
pub record Further (area : List ℕ) (at : ℕ) (f : Field) (next : FieldCursor) : Type 0 where
  pub starts : at < f.start
  pub stops : f.start ≤ f.stop
  pub next_is : next.at ≡ f.stop
  pub inside : next.at ≤ length area

abbrev pub StepLeadsOn : Type 0
StepLeadsOn = (form : Form) (area : List ℕ) (at : ℕ) (f : Field) (next : FieldCursor) → next_field form area at ≡ Ok (Some (record { field = f; next = next })) → Further area at f next
