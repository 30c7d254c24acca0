-- The statements of specs/Demands, proved.
-- Assumes nothing.
use Prim.Native.Nat.{ℕ, ◌^◌, ◌<◌}
use mathlib.Core.Path.{◌≡◌, refl, sym, ap, ◌∙◌}
use mathlib.Core.Bool.{Bool, true, false}
use mathlib.Core.List.{List, [], ◌∷◌, ◌++◌}
use native.Mathlib.Omega.{arith}
use native.Mathlib.Nat.{le_refl}
use lib.Dec.{ltb, lit<}
use lib.ListN.{length, get_or, take, drop}
use lib.Seq.{get_or-take}
use borrow.Author.Tests.{not-false, le-ltb}
use Rattle.std.specs.Prelude.{if◌then◌else◌}
use Rattle.fields.specs.Width.{is_width}
use Rattle.fields.specs.BigEndian.{Bytes}
use Rattle.fields.specs.Answer.{Answer, accepted, refused, first_of, leaves}
use Rattle.fields.specs.Staged.{run}
use Rattle.fields.proofs.Width.{lt_fits}
use Rattle.fields.proofs.BigEndian.{bytes_take, number_lt}
use Rattle.fields.proofs.Judging.{Passed, NoneSays, said_behind}
use Rattle.fields.proofs.Staged.{passed_all, demand3}
use Rattle.header.specs.declared.PduHeader.{PduHeader}
use Rattle.header.specs.Header.{header_length, header_bytes}
use Rattle.header.specs.Judging.{record_tests, judging}
use Rattle.header.specs.Reading.{entity_width_in, sequence_width_in, header_length_in, header_in, reading_header}
use Rattle.header.specs.Directive.{reading_own}
use Rattle.header.specs.Writing.{no_room, writing_header, header_memory}
use Rattle.header.specs.Demands.{HeaderReadsBack, MemoryReadsBack, ReadIsSound, NamedNeedIsEnough, HeaderDemand3, DirectiveDemand3}
use Rattle.header.proofs.Judging.{sound, all_right}
use Rattle.header.proofs.Reading.{header_two}
use Rattle.header.proofs.Writing.{enough, written_passed}
use Rattle.header.proofs.Directives.{own_four}
use Rattle.header.proofs.RoundTrip.{reads_back}

-- ---- demand 3

pub header_demand3 : HeaderDemand3
header_demand3 = demand3 (run reading_header) 2 reading_header header_two (λ s. refl)

pub directive_demand3 : DirectiveDemand3
directive_demand3 own = demand3 (run (reading_own own)) 4 (reading_own own) (own_four own) (λ s. refl)

-- ---- demand 2: what is written reads back

widths_right : (h : PduHeader) → Passed (record_tests h) → (is_width h.width ≡ true) × (is_width h.sequence.0.width ≡ true)
unfolding record_tests
widths_right h p = (not-false _ p.0, not-false _ p.1.0)

pub sound_reads_back : (h : PduHeader) (t : List ℕ) → Passed (record_tests h) → h.length < 2 ^ 16 → run reading_header (header_bytes h ++ t) ≡ accepted h
sound_reads_back h t p small =
    let w = widths_right h p in
    reads_back h (sound h p) small t w.0 w.1

pub header_reads_back : HeaderReadsBack
header_reads_back h room n t small e = sound_reads_back h t (written_passed h room n (sym e)) small

pub memory_reads_back : MemoryReadsBack
unfolding header_memory
memory_reads_back h s n small e =
    let m : header_memory h s ≡ header_bytes h ++ drop (length (header_bytes h)) s = ap (λ (o : Answer ℕ). leaves o (λ (_ : ℕ). header_bytes h) s) e in
    ap (run reading_header) m ∙ header_reads_back h (length s) n _ small e

-- ---- C-02: the need that is named is enough

-- of the tests of a record none says 11
no_eleven : (h : PduHeader) → NoneSays 11 (record_tests h)
unfolding record_tests
no_eleven h = (λ e. omega arith, (λ e. omega arith, (λ e. omega arith, (λ e. omega arith, (λ e. omega arith, tt)))))

pub named_need_is_enough : NamedNeedIsEnough
unfolding writing_header
named_need_is_enough h room found need e = go (ltb room (header_length h)) p.1
  where
    p : Passed (record_tests h) × (first_of (no_room room (header_length h) ∷ []) (header_length h) ≡ refused (11 ∷ found ∷ need ∷ []))
    p = said_behind 11 (found ∷ need ∷ []) (record_tests h) (no_room room (header_length h) ∷ []) (header_length h) (no_eleven h) e

    go : (c : Bool)
        → ◌≡◌ {A = Answer ℕ} (if c then refused (11 ∷ room ∷ header_length h ∷ []) else accepted (header_length h)) (refused (11 ∷ found ∷ need ∷ []))
        → (found ≡ room) × (writing_header h need ≡ accepted need)
    go true d =
        let f : found ≡ room = cc in
        let n : need ≡ header_length h = cc in
        (f, rw n (sym (enough h p.0 (header_length h) (header_length h) refl (le-ltb _ _ (le_refl (header_length h)), tt))))
    go false d = let z : ◌≡◌ {A = ℕ} 0 1 = cc in absurd (omega arith)

-- ---- demand 2: what was read is sound

-- the values of a header that stands in bytes fit
in_bytes : (a : List ℕ) → Bytes a → is_width (entity_width_in a) ≡ true → is_width (sequence_width_in a) ≡ true → accepted (header_in a) ≡ judging (header_in a)
unfolding header_in
in_bytes a b we wq =
    all_right (header_in a) (rw we, (rw wq, tt)) (lt_fits _ _ (number_lt a _ _ b)) (lt_fits _ _ (number_lt a _ _ b)) (lt_fits _ _ (number_lt a _ _ b))

pub read_is_sound : ReadIsSound
unfolding reading_header
read_is_sound s h b e =
    let p = passed_all reading_header s h e in
    let n = header_length_in (take 4 s) in
    let a = take n s in
    let same : get_or a 3 0 ≡ get_or (take 4 s) 3 0 = get_or-take n s 3 0 (omega arith) ∙ sym (get_or-take 4 s 3 0 (lit< tt)) in
    let we : is_width (entity_width_in a) ≡ true = rw same (not-false _ p.1.1.0) in
    let wq : is_width (sequence_width_in a) ≡ true = rw same (not-false _ p.1.1.1.0) in
    let is : header_in a ≡ h = p.1.1.1.1.1 in
    ap judging (sym is) ∙ sym (in_bytes a (bytes_take n s b) we wq) ∙ ap accepted is
