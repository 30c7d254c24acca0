-- Comparing: the answer at each exit, the loop over the numbers, that it says yes on what was written, and that yes means equal. Once for both widths.
-- Assumes nothing.
use Prim.Native.Nat.{ℕ, zero, suc, ◌+◌, ◌-◌, ◌*◌, ◌/◌, ◌≤◌, ◌<◌}
use mathlib.Core.Path.{◌≡◌, refl, sym, ap, ap₂, subst, ◌∙◌}
use mathlib.Core.Bool.{Bool, true, false, ◌&&◌}
use mathlib.Core.List.{List, [], ◌∷◌, ◌++◌}
use native.Mathlib.Omega.{arith}
use lib.Dec.{eqb, leb}
use lib.ListN.{length, drop, length-append, length-drop}
use lib.Seq.{drop_at, drop-drop}
use borrow.Author.Tests.{lt-leb, le-leb, leb-true, eqb-true, eqb-false, eq-eqb, ne_eqb}
use Rattle.fields.specs.BigEndian.{number_at, be_bytes}
use Rattle.fields.specs.Answer.{Answer, accepted, short, refused, told, and_then, first_of}
use Rattle.fields.specs.Staged.{run}
use Rattle.fields.proofs.BigEndian.{number_drop, number_back, be_length}
use Rattle.fields.proofs.Judging.{Passed, passed, passed_last, refused_after, passed_after, refused_then, same_accepted, went}
use Rattle.header.specs.declared.PduHeader.{PduHeader}
use Rattle.header.specs.declared.pdu.PduWritten.{PduWritten}
use Rattle.header.specs.declared.flags.Direction.TheVariants.{TowardsSender}
use Rattle.header.specs.declared.flags.LargeFileFlag.{LargeFileFlag}
use Rattle.header.specs.Header.{with_length}
use Rattle.header.specs.Pdu.{directive_tests, judging_directive}
use Rattle.header.proofs.Comparing.{same_self, both_true, same_header_shares}
use Rattle.header.proofs.Pdus.{refused_directive, with_directive, written_has}
use Rattle.header.specs.Comparing.{same_header}
use Rattle.nak.specs.declared.Nak.{Nak}
use Rattle.header.specs.Size.{size_width}
use Rattle.nak.specs.Reading.{reading_nak}
use Rattle.nak.specs.Nak.{pair_size}
use Rattle.nak.specs.Requests.{area_of, pairs_from, pairs_of}
use Rattle.nak.specs.Writing.{numbers_bytes, nak_bytes, data_length, filled, own_tests, writing_nak, judging_nak}
use Rattle.nak.specs.Comparing.{same_nak, holds_numbers, comparing}
use Rattle.nak.specs.Demands.{by_turns, Lent, read_as, ComparingSaysYes, YesMeansEqual}
use Rattle.nak.specs.Within.{towards_sender, comparing_read}
use Rattle.nak.proofs.Tests.{own_passed}
use Rattle.nak.proofs.Writing.{to_write}
use Rattle.nak.proofs.RoundTrip.{halves, written_reads_back}

-- ---- the numbers: the first of those that are left, v, against what is left of the area

module _ (w : ℕ) (area : List ℕ) (at : ℕ) (v : ℕ) (ns : List ℕ) where
  here : holds_numbers w (drop at area) (v ∷ ns) ≡ (leb w (length area - at) && eqb (number_at area at w) v && holds_numbers w (drop (at + w) area) ns)
  unfolding holds_numbers
  here = rw (number_drop area at w, length-drop at area, drop-drop w at area) refl

  pub number_short : length area - at < w → false ≡ holds_numbers w (drop at area) (v ∷ ns)
  number_short l = rw (here, lt-leb _ _ l)

  module _ (fits : w ≤ length area - at) (x : ℕ) (read : x ≡ number_at area at w) where
    pub number_differs : (x ≡ v → ⊥) → false ≡ holds_numbers w (drop at area) (v ∷ ns)
    number_differs d = rw (here, le-leb _ _ fits, ← read, ne_eqb _ _ d)

    pub number_same : x ≡ v → holds_numbers w (drop (at + w) area) ns ≡ holds_numbers w (drop at area) (v ∷ ns)
    number_same d = rw (here, le-leb _ _ fits, ← read, eq-eqb _ _ d)

pub numbers_end : (w : ℕ) (area : List ℕ) (at : ℕ) → at ≤ length area → eqb at (length area) ≡ holds_numbers w (drop at area) []
unfolding holds_numbers
numbers_end w area at h = rw length-drop (go (eqb at (length area)) refl)
  where
    go : (b : Bool) → eqb at (length area) ≡ b → eqb at (length area) ≡ eqb (length area - at) 0
    go true p =
        let q : at ≡ length area = eqb-true _ _ p in
        p ∙ sym (eq-eqb (length area - at) 0 (omega arith))
    go false p = p ∙ sym (ne_eqb (length area - at) 0 (λ d. eqb-false at (length area) p (omega arith)))

-- ---- the whole

twice : {A B : Type 0} (o : Answer A) (f : A → Answer B) → and_then o (λ _. and_then o f) ≡ and_then o f
twice (accepted a) f = refl
twice (short l n) f = refl
twice (refused ns) f = refl

module _ (file : LargeFileFlag) (h : PduHeader) (start end count : ℕ) where
  -- the record's tests, and behind them the NAK's own
  pub refused_record : (ns : List ℕ) → told ns ≡ judging_directive h → told ns ≡ judging_nak file h start end count
  unfolding judging_nak
  refused_record ns e = refused_directive h (own_tests file start end count) (filled file (count / 2) h) ns e

  module _ (good : Passed (directive_tests h)) (o : Answer ℕ) (own : o ≡ first_of (own_tests file start end count) (data_length file h.crc (count / 2))) where
    pub refused_own : (ns : List ℕ) → told ns ≡ o → told ns ≡ judging_nak file h start end count
    unfolding judging_nak
    refused_own ns e =
        refused_after (directive_tests h) (own_tests file start end count) good (filled file (count / 2) h) (data_length file h.crc (count / 2)) ns (e ∙ own)

    pub judged_filled : (d : ℕ) (g k : PduHeader) → accepted d ≡ o → g ≡ towards_sender file h → k ≡ with_length d g
        → accepted k ≡ judging_nak file h start end count
    unfolding judging_nak filled
    judged_filled d g k e pg pk =
        let p = passed (own_tests file start end count) d (data_length file h.crc (count / 2)) (e ∙ own) in
        ap accepted (pk ∙ ap₂ with_length p.1 pg) ∙ passed_after (directive_tests h) (own_tests file start end count) good (filled file (count / 2) h) p.0

module _ (file : LargeFileFlag) (h : PduHeader) (start end count : ℕ) (n : Nak) (held : Bool) where
  pub refused_judging : (ns : List ℕ) → told ns ≡ judging_nak file h start end count → told ns ≡ comparing_read file h start end count n held
  unfolding comparing_read
  refused_judging ns e = refused_then _ (λ w. accepted (same_nak n w start end && held)) ns e

  module _ (w : PduHeader) (e : accepted w ≡ judging_nak file h start end count) where
    rest : accepted (same_nak n w start end && held) ≡ comparing_read file h start end count n held
    unfolding comparing_read
    rest = ap (λ (o : Answer PduHeader). and_then o (λ w. accepted (same_nak n w start end && held))) e

    module _ (k : PduHeader) (same : Bool) (pk : k ≡ w) (ps : same ≡ same_nak n k start end) where
      is : accepted (same && held) ≡ comparing_read file h start end count n held
      is = ap (λ (b : Bool). accepted (b && held)) (ps ∙ ap (λ (x : PduHeader). same_nak n x start end) pk) ∙ rest

      pub not_alike : same ≡ false → accepted false ≡ comparing_read file h start end count n held
      not_alike p = ap (λ (b : Bool). accepted (b && held)) (sym p) ∙ is

      pub alike : same ≡ true → accepted held ≡ comparing_read file h start end count n held
      alike p = ap (λ (b : Bool). accepted (b && held)) (sym p) ∙ is

module _ (file : LargeFileFlag) (h : PduHeader) (start end : ℕ) (numbers s : List ℕ) where
  abbrev decide : Nak → Answer Bool
  decide n = comparing_read file h start end (length numbers) n (holds_numbers (size_width file) (area_of n s) numbers)

  -- the reader's refusals come first, however often they are asked
  pub reading_first : and_then (run reading_nak s) (λ _. comparing file h start end numbers s) ≡ comparing file h start end numbers s
  unfolding comparing comparing_read
  reading_first = twice (run reading_nak s) decide

  pub refused_reading : (ns : List ℕ) → told ns ≡ run reading_nak s → told ns ≡ comparing file h start end numbers s
  unfolding comparing comparing_read
  refused_reading ns e = refused_then _ decide ns e

  module _ (n : Nak) (e : accepted n ≡ run reading_nak s) where
    pub list_decides : (u : ℕ) (area : List ℕ) (b : Bool) → u ≡ size_width file → area ≡ area_of n s → b ≡ holds_numbers u area numbers
        → comparing_read file h start end (length numbers) n b ≡ comparing file h start end numbers s
    unfolding comparing comparing_read
    list_decides u area b pu pa pb =
        ap (comparing_read file h start end (length numbers) n) (pb ∙ rw (pu, pa)) ∙ ap (λ (o : Answer Nak). and_then o decide) e

    -- with no list, no byte may stand in the area
    pub nothing_decides : (b : Bool) (area : List ℕ) → area ≡ area_of n s → b ≡ eqb (length area) 0 → numbers ≡ []
        → comparing_read file h start end (length numbers) n b ≡ comparing file h start end numbers s
    unfolding holds_numbers
    nothing_decides b area pa pb none = list_decides (size_width file) area b refl pa (pb ∙ ap (holds_numbers (size_width file) area) (sym none))

-- ---- comparing says yes on what was written

holds_self : (w : ℕ) (ns : List ℕ) → Lent w ns → holds_numbers w (numbers_bytes w ns) ns ≡ true
unfolding holds_numbers numbers_bytes
holds_self w [] h = refl
holds_self w (n ∷ ns) h =
    let s = be_bytes w n ++ numbers_bytes w ns in
    let long : w ≤ length s = omega (arith, length-append (be_bytes w n) (numbers_bytes w ns), be_length w n) in
    let back : number_at s 0 w ≡ n = number_back [] (numbers_bytes w ns) 0 w n refl (h 0) in
    let rest : drop w s ≡ numbers_bytes w ns = drop_at (be_bytes w n) (numbers_bytes w ns) w (be_length w n) in
    rw (le-leb _ _ long, eq-eqb _ _ back, rest) (holds_self w ns (λ i. h (suc i)))

-- direction, file flag and length are not judged
unfilled_passes : (file : LargeFileFlag) (n : ℕ) (h : PduHeader) → Passed (directive_tests (filled file n h)) → Passed (directive_tests h)
unfolding filled
unfilled_passes file n h p = rw (← with_directive TowardsSender file (data_length file h.crc n) h) p

-- what is written was judged
judged_write : (file : LargeFileFlag) (h : PduHeader) (start end count room : ℕ) (w : PduWritten)
    → writing_nak file h start end count room ≡ accepted w → accepted w.header ≡ judging_nak file h start end count
unfolding writing_nak judging_nak
judged_write file h start end count room w e =
    let F = filled file (count / 2) h in
    let p = written_has F (own_tests file start end count) room w e in
    ap (λ (x : PduWritten). accepted x.header) p.handed_back_lem
    ∙ passed_after (directive_tests h) (own_tests file start end count) (unfilled_passes file (count / 2) h p.good) F p.own_passed

pub comparing_says_yes : ComparingSaysYes
unfolding same_nak
comparing_says_yes file h start end room numbers t w ends lent e =
    let k = w.header in
    let s = nak_bytes k start end numbers ++ t in
    let n = read_as k start end (length numbers / 2) in
    let b = written_reads_back file h start end room numbers t w ends lent e in
    let z = to_write file h start end (length numbers) room w (sym e) in
    let f : size_width file ≡ size_width k.file = sym (ap size_width z.flag) in
    let holds : holds_numbers (size_width file) (area_of n s) numbers ≡ true =
    ap₂ (λ (u : ℕ) (x : List ℕ). holds_numbers u x numbers) f b.area ∙ holds_self (size_width k.file) numbers (subst (λ (u : ℕ). Lent u numbers) f lent) in
    let same : true ≡ same_nak n k start end = sym (rw (same_self k, eq-eqb start start refl, eq-eqb end end refl)) in
    let judged = judged_write file h start end (length numbers) room w e in
    sym
    (alike file h start end (length numbers) n true k judged k true refl same refl
    ∙ list_decides file h start end numbers s n (sym b.read) (size_width file) (area_of n s) true refl refl (sym holds))

-- ---- and yes means equal numbers

-- an area that holds numbers holds the first, and behind it the others
record Holds (w : ℕ) (area : List ℕ) (n : ℕ) (ns : List ℕ) : Type 0 where
  long : w ≤ length area
  number : number_at area 0 w ≡ n
  others : holds_numbers w (drop w area) ns ≡ true

holds_first : (w : ℕ) (area : List ℕ) (n : ℕ) (ns : List ℕ) → holds_numbers w area (n ∷ ns) ≡ true → Holds w area n ns
unfolding holds_numbers
holds_first w area n ns e =
    let p = both_true (leb w (length area) && eqb (number_at area 0 w) n) (holds_numbers w (drop w area) ns) e in
    let q = both_true (leb w (length area)) (eqb (number_at area 0 w) n) p.0 in
    record { long = leb-true w (length area) q.0; number = eqb-true (number_at area 0 w) n q.1; others = p.1 }

-- so it is as long as they are, and its pairs are they
holds_length : (w : ℕ) (area ns : List ℕ) → holds_numbers w area ns ≡ true → length area ≡ w * length ns
unfolding holds_numbers
holds_length w area [] e = eqb-true (length area) 0 e ∙ omega arith
holds_length w area (n ∷ ns) e =
    let p = holds_first w area n ns e in
    omega (arith, p.long, holds_length w (drop w area) ns p.others, length-drop w area)

holds_pairs : (w n : ℕ) (area ns : List ℕ) (at : ℕ) → length ns ≡ 2 * n → holds_numbers w (drop at area) ns ≡ true → pairs_from w area at n ≡ by_turns ns
holds_pairs w zero area [] at e h = refl
holds_pairs w zero area (a ∷ ns) at e h = absurd (omega arith)
holds_pairs w (suc n) area [] at e h = absurd (omega arith)
holds_pairs w (suc n) area (a ∷ []) at e h = absurd (omega arith)
holds_pairs w (suc n) area (a ∷ b ∷ ns) at e h =
    let p = holds_first w (drop at area) a (b ∷ ns) h in
    let q = holds_first w (drop (at + w) area) b ns (ap (λ (z : List ℕ). holds_numbers w z (b ∷ ns)) (sym (drop-drop w at area)) ∙ p.others) in
    let twice : at + w + w ≡ at + 2 * w = omega arith in
    let r : holds_numbers w (drop (at + 2 * w) area) ns ≡ true = ap (λ (z : List ℕ). holds_numbers w z ns)
    (sym (drop-drop w (at + w) area ∙ ap (λ (j : ℕ). drop j area) twice))
    ∙ q.others in
    let x : number_at area at w ≡ a = sym (number_drop area at w) ∙ p.number in
    let y : number_at area (at + w) w ≡ b = sym (number_drop area (at + w) w) ∙ q.number in
    ap₂ (λ (c : ℕ × ℕ) (m : List (ℕ × ℕ)). c ∷ m) (ap₂ (λ (c d : ℕ). (c, d)) x y) (holds_pairs w n area ns (at + 2 * w) (omega arith) r)

pairs_of_lem : (file : LargeFileFlag) (area ns : List ℕ) → length ns ≡ 2 * (length ns / 2) → length area ≡ size_width file * length ns
    → holds_numbers (size_width file) area ns ≡ true → pairs_of file area ≡ by_turns ns
unfolding pairs_of
pairs_of_lem file area ns even whole h =
    ap (pairs_from (size_width file) area 0) (ap (λ (j : ℕ). j / pair_size file) whole ∙ halves file (length ns) even)
    ∙ holds_pairs (size_width file) (length ns / 2) area ns 0 even h

even_list : (file : LargeFileFlag) (h : PduHeader) (start end count : ℕ) (w : PduHeader) → accepted w ≡ judging_nak file h start end count
    → count ≡ 2 * (count / 2)
unfolding judging_nak
even_list file h start end count w e =
    let p = passed (directive_tests h ++ own_tests file start end count) w (filled file (count / 2) h) e in
    (own_passed file start end count (passed_last (directive_tests h) (own_tests file start end count) p.0)).even

pub yes_means_equal : YesMeansEqual
unfolding comparing same_nak
yes_means_equal file h start end numbers s e =
    let r = went (run reading_nak s) _ true (sym e) in
    let j = went (judging_nak file h start end (length numbers)) _ true r.second in
    let n = r.mid in
    let w = j.mid in
    let y = both_true (same_nak n w start end) (holds_numbers (size_width file) (area_of n s) numbers) (sym (same_accepted _ _ j.second)) in
    let same = both_true (same_header n.header w && eqb n.start start) (eqb n.end end) y.0 in
    let header = both_true (same_header n.header w) (eqb n.start start) same.0 in
    let holds = y.1 in
    let whole = holds_length (size_width file) (area_of n s) numbers holds in
    let even = even_list file h start end (length numbers) w j.first in
    record {
      nak = n;
      header = w;
      read = sym r.first;
      judged = sym j.first;
      fields = same_header_shares n.header w header.0;
      first = eqb-true _ _ header.1;
      last = eqb-true _ _ same.1;
      pairs = pairs_of_lem file (area_of n s) numbers even whole holds;
      whole = whole;
    }
