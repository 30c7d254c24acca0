-- Small areas, written out by hand: what is shown of each, and where it is cut.
use Rattle.std.specs.Prelude.{ℕ, ◌≡◌, List, [], ◌∷◌, map, Result, Ok}
use Rattle.tlv.specs.declared.Form.{Form}
use Rattle.tlv.specs.declared.Form.TheVariants.{Lv, Tlv, LongTlv}
use Rattle.tlv.specs.declared.Cut.{Cut}
use Rattle.tlv.specs.Reading.{cut_at}
use Rattle.tlv.specs.Walking.{shown_from, first_cut}

pub record Case : Type 0 where
  pub form : Form
  pub area : List ℕ
  pub shows : List (ℕ × List ℕ)
  pub cut : Result (Unit {0}) Cut

abbrev case : Form → List ℕ → List (ℕ × List ℕ) → Result (Unit {0}) Cut → Case
case form area shows cut = record { form = form; area = area; shows = shows; cut = cut }

abbrev pub cases : List Case
cases =
    -- nothing
    case Tlv [] [] (Ok tt)
    -- the name 'ab', and an empty one
    ∷ case Lv (2 ∷ 0x61 ∷ 0x62 ∷ 0 ∷ []) ((0, 0x61 ∷ 0x62 ∷ []) ∷ (0, []) ∷ []) (Ok tt)
    -- a name that says one byte more than there are
    ∷ case Lv (2 ∷ 0x61 ∷ []) [] (cut_at 0)
    -- the entity identifier 5 as a fault location
    ∷ case Tlv (6 ∷ 1 ∷ 5 ∷ []) ((6, 5 ∷ []) ∷ []) (Ok tt)
    -- two options, of which the second is empty, is cut in its value, and is cut in its head
    ∷ case Tlv (2 ∷ 1 ∷ 7 ∷ 6 ∷ 0 ∷ []) ((2, 7 ∷ []) ∷ (6, []) ∷ []) (Ok tt)
    ∷ case Tlv (2 ∷ 1 ∷ 7 ∷ 6 ∷ 2 ∷ 0 ∷ []) ((2, 7 ∷ []) ∷ []) (cut_at 3)
    ∷ case Tlv (2 ∷ 1 ∷ 7 ∷ 6 ∷ []) ((2, 7 ∷ []) ∷ []) (cut_at 3)
    -- two entries of a log, and one whose length has a byte only
    ∷ case LongTlv (1 ∷ 0 ∷ 2 ∷ 9 ∷ 8 ∷ 2 ∷ 0 ∷ 0 ∷ []) ((1, 9 ∷ 8 ∷ []) ∷ (2, []) ∷ []) (Ok tt)
    ∷ case LongTlv (1 ∷ 0 ∷ []) [] (cut_at 0)
    ∷ []

-- what is expected, and what the definitions say of the areas
abbrev expected : Case → List (ℕ × List ℕ) × Result (Unit {0}) Cut
expected c = (c.shows, c.cut)

abbrev found : Case → List (ℕ × List ℕ) × Result (Unit {0}) Cut
found c = (shown_from c.form c.area 0, first_cut c.form c.area 0)

abbrev pub Cases : Type 0
Cases = map found cases ≡ map expected cases
