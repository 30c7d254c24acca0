-- Areas that are parts of other bytes: a part shows what the whole shows there, and bytes behind an area change nothing of its whole fields.
use Rattle.std.specs.Prelude.{ℕ, ◌+◌, ◌≤◌, ◌≡◌, List, ◌++◌, length, take, drop, Result, Ok, Err}
use Rattle.tlv.specs.declared.Form.{Form}
use Rattle.tlv.specs.declared.Field.{Field}
use Rattle.tlv.specs.declared.Cut.{Cut}
use Rattle.tlv.specs.Reading.{cut_at, field_in, value_of}
use Rattle.tlv.specs.Walking.{shown_from, first_cut}

-- a place so much further on
abbrev pub further_on : ℕ → Result (Unit {0}) Cut → Result (Unit {0}) Cut
further_on n (Ok none) = Ok none
further_on n (Err cut) = cut_at (n + cut.at)

-- from a place on: the same fields are shown, and what is cut in the part is cut in the whole
pub record SamePart (form : Form) (s : List ℕ) (at : ℕ) : Type 0 where
  pub shows : shown_from form (drop at s) 0 ≡ shown_from form s at
  pub cut : first_cut form s at ≡ further_on at (first_cut form (drop at s) 0)

abbrev pub PartShows : Type 0
PartShows = (form : Form) (s : List ℕ) (at : ℕ) → at ≤ length s → SamePart form s at

-- up to a place: a value that lies before it is the same
abbrev pub ValueBefore : Type 0
ValueBefore = (s : List ℕ) (n : ℕ) (f : Field) → n ≤ length s → f.stop ≤ n → value_of f (take n s) ≡ value_of f s

-- whatever follows the area, a field that is whole in it is read the same
abbrev pub WholeStays : Type 0
WholeStays = (form : Form) (area t : List ℕ) (at : ℕ) (f : Field) → field_in form area at ≡ Ok f → field_in form (area ++ t) at ≡ Ok f
