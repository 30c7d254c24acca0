-- Reading a NAK: a NAK made of its parts, and the answer behind its code.
-- Assumes nothing.
use Prim.Native.Nat.{ℕ, ◌+◌, ◌-◌, ◌*◌, ◌/◌, ◌≤◌}
use mathlib.Core.Path.{◌≡◌, refl, sym, ap, ap₂, ◌∙◌}
use mathlib.Core.List.{List, [], ◌∷◌}
use native.Mathlib.Omega.{arith}
use lib.ListN.{length, take, drop}
use borrow.Author.Tests.{ltb-false}
use Rattle.fields.specs.BigEndian.{number_at}
use Rattle.fields.specs.Answer.{accepted, told, Test, first_of, all_of}
use Rattle.fields.specs.Staged.{run}
use Rattle.fields.proofs.Judging.{judged_passed, all_passed, refused_on}
use Rattle.header.specs.declared.PduHeader.{PduHeader}
use Rattle.header.specs.declared.directive.DirectivePdu.{DirectivePdu}
use Rattle.header.specs.Header.{header_length, data_end}
use Rattle.header.specs.Directive.{data_short, reading_own}
use Rattle.header.specs.Size.{size_width}
use Rattle.header.proofs.Directives.{OwnRead, refused_own, read_own}
use Rattle.nak.specs.declared.Nak.{Nak}
use Rattle.nak.specs.Nak.{nak_code, area_start, nak_in}
use Rattle.nak.specs.Reading.{reading_nak}

-- ---- where the requests start, and a NAK made of its parts

pub area_is : (h : PduHeader) (a w : ℕ) → a ≡ header_length h → w ≡ size_width h.file → a + 1 + 2 * w ≡ area_start h
unfolding area_start
area_is h a w p q = rw (p, q)

module _ (h : PduHeader) (content : List ℕ) (before : area_start h ≤ data_end h) (size : header_length h + length content ≡ data_end h) where
  -- the scope lies in the data
  pub scope_lies : 1 + 2 * size_width h.file ≤ length content
  scope_lies = omega (arith, sym (area_is h (header_length h) (size_width h.file) refl refl))

  pub nak_is : (area stop w x y : ℕ) → area ≡ area_start h → stop ≡ data_end h → w ≡ size_width h.file → x ≡ number_at content 1 (size_width h.file)
      → y ≡ number_at content (1 + w) (size_width h.file)
      → record { header = h; start = x; end = y; area = area; stop = stop; count = (stop - area) / (2 * w) } ≡ nak_in h content
  unfolding nak_in
  nak_is area stop w x y pb pe pw px py = rw (px, py, pb, pe, pw)

-- ---- what is tested behind the code

abbrev pub read_tests : PduHeader → List ℕ → List Test
read_tests h content = data_short (data_end h) (area_start h) ∷ []

module _ (s : List ℕ) where
  pub refused_pdu : (ns : List ℕ) → told ns ≡ run (reading_own nak_code) s → told ns ≡ run reading_nak s
  unfolding reading_nak
  refused_pdu ns e = refused_own nak_code read_tests nak_in s ns e

  module _ (d : DirectivePdu) (e : accepted d ≡ run (reading_own nak_code) s) (a : ℕ) (pa : a ≡ header_length d.header) where
    pub lies : OwnRead d.header s d.stop a
    lies = (read_own nak_code read_tests nak_in s d a e pa).0

    module _ (area : ℕ) (pb : area ≡ area_start d.header) where
      abbrev the_nak : Nak
      the_nak = nak_in d.header (take (d.stop - a) (drop a s))

      abbrev test : List Test
      test = data_short d.stop area ∷ []

      decides : first_of test the_nak ≡ run reading_nak s
      unfolding reading_nak
      decides = ap₂ (λ (x y : ℕ). first_of (data_short x y ∷ []) the_nak) lies.stop_is pb ∙ (read_own nak_code read_tests nak_in s d a e pa).1

      pub scope_short : (ns : List ℕ) → told ns ≡ all_of test → told ns ≡ run reading_nak s
      scope_short ns f = refused_on ns test [] tt the_nak f ∙ decides

      module _ (f : accepted tt ≡ all_of test) where
        pub scope_there : area ≤ d.stop
        scope_there = ltb-false _ _ (judged_passed test f).0

        pub nak_read : (n : Nak) → n ≡ the_nak → accepted n ≡ run reading_nak s
        nak_read n p = ap accepted p ∙ sym (all_passed test the_nak (judged_passed test f)) ∙ decides
