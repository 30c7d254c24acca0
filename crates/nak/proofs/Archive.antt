-- C-14: a file of NAKs laid end to end is read as one list. What the reader accepts it accepts alike whatever follows (demand 3), and the NAK says where it ends: so two that begin the same bytes are the same bytes. What is written is read so (demand 2), and what is finished was written.
-- Assumes nothing.
use Prim.Native.Nat.{ℕ, zero, suc, ◌+◌, ◌-◌, ◌*◌, ◌/◌, ◌≤◌}
use mathlib.Core.Path.{◌≡◌, refl, sym, ap, ap₂, subst, ◌∙◌}
use mathlib.Core.List.{List, [], ◌∷◌, ◌++◌, map, append-nil}
use native.Mathlib.Omega.{arith}
use lib.ListN.{length, take, drop, length-append, length-map}
use lib.Seq.{take_at, drop_at, take-add, drop-drop}
use Rattle.fields.specs.BigEndian.{Bytes, number_at}
use Rattle.fields.specs.Answer.{accepted}
use Rattle.fields.specs.Staged.{run}
use Rattle.fields.specs.Demand3.{Final}
use Rattle.fields.proofs.BigEndian.{number_lt, number_bytes}
use Rattle.fields.proofs.Judging.{same_accepted}
use Rattle.header.specs.declared.PduHeader.{PduHeader}
use Rattle.header.specs.declared.flags.LargeFileFlag.{LargeFileFlag}
use Rattle.header.specs.declared.pdu.PduWritten.{PduWritten}
use Rattle.header.specs.Header.{pdu_length, data_end}
use Rattle.header.specs.Size.{size_width}
use Rattle.header.specs.Flags.{crc_laws}
use Rattle.header.proofs.Verifying.{at_least, pdu_sum, end_sum}
use Rattle.header.proofs.PdusBack.{over_length}
use Rattle.nak.specs.declared.Nak.{Nak}
use Rattle.nak.specs.declared.reserve.ReservedNak.{ReservedNak}
use Rattle.nak.specs.Nak.{area_start}
use Rattle.nak.specs.Reading.{reading_nak}
use Rattle.nak.specs.Requests.{pairs_of}
use Rattle.nak.specs.Writing.{numbers_bytes, nak_data, nak_over, nak_bytes}
use Rattle.nak.specs.Reserving.{keeping, finishing, area_in, finished_memory}
use Rattle.nak.specs.Demands.{by_turns, Lent, read_as, ReadsBack}
use Rattle.nak.specs.Cases.{flat}
use Rattle.nak.specs.Archive.{Contents, Archived, bytes_of, contents_of, end_to_end, archive, NoBeginning, OneList, SameBytes, contents_in, ReadAs, ArchiveReadsBack, OneReading, Whole, ArchivedIsWhole, NoWholeBeginning, OneCut, Left, WriterLeaves, FinishLeaves}
use Rattle.nak.proofs.Storing.{data_length_lem, numbers_length}
use Rattle.nak.proofs.Writing.{ToWrite, to_write, area_before}
use Rattle.nak.proofs.Reserving.{finish_writes, over_numbers}
use Rattle.nak.proofs.Demands.{nak_demand3, accepted_shows}
use Rattle.nak.proofs.RoundTrip.{pairs_back, written_reads_back, begins_with}

-- ---- whole NAKs, whoever wrote them

-- with anything behind it, it is read as it was
whole_on : (p t : List ℕ) (w : Whole p) → run reading_nak (p ++ t) ≡ accepted w.nak
whole_on p t w = nak_demand3.final p t (subst Final (sym w.read) tt) ∙ w.read

-- two that begin the same bytes are one
one_front : (p q t u : List ℕ) → Whole p → Whole q → p ++ t ≡ q ++ u → (p ≡ q) × (t ≡ u)
one_front p q t u a b e =
    let same : a.nak ≡ b.nak = same_accepted a.nak b.nak (sym (whole_on p t a) ∙ ap (run reading_nak) e ∙ whole_on q u b) in
    let l : length q ≡ length p = b.ends ∙ sym (ap (λ (n : Nak). pdu_length n.header) same) ∙ sym a.ends in (
      sym (take_at p t (length p) refl) ∙ ap (take (length p)) e ∙ take_at q u (length p) l,
      sym (drop_at p t (length p) refl) ∙ ap (drop (length p)) e ∙ drop_at q u (length p) l,
    )

pub no_whole_beginning : NoWholeBeginning
no_whole_beginning p q t a b e = (one_front p q t [] a b (sym e ∙ sym (append-nil q))).1

-- each has bytes
some_bytes : (p t : List ℕ) → Whole p → [] ≡ p ++ t → ⊥
some_bytes p t a e = omega (arith, ap length e, length-append p t, a.ends, at_least a.nak.header _ refl)

pub one_cut : OneCut
one_cut [] [] a b e = refl
one_cut [] (q ∷ qs) a b e = absurd (some_bytes q (end_to_end qs) b.0 e)
one_cut (p ∷ ps) [] a b e = absurd (some_bytes p (end_to_end ps) a.0 (sym e))
one_cut (p ∷ ps) (q ∷ qs) a b e =
    let f = one_front p q (end_to_end ps) (end_to_end qs) a.0 b.0 e in
    ap₂ (λ (x : List ℕ) (y : List (List ℕ)). x ∷ y) f.0 (one_cut ps qs a.1 b.1 f.1)

-- ---- one reading

-- no bytes are no NAK
no_nak : (n : Nak) (s : List ℕ) → s ≡ [] → run reading_nak s ≡ accepted n → ⊥
no_nak n s z e =
    let a = accepted_shows s n e in omega (arith, ap length z, a.inside, a.up_to, end_sum n.header, at_least n.header _ refl, crc_laws.small n.header.crc)

pub one_reading : OneReading
one_reading [] [] s a b = refl
one_reading [] (d ∷ ds) s a b = absurd (no_nak b.nak s a b.read)
one_reading (c ∷ cs) [] s a b = absurd (no_nak a.nak s b a.read)
one_reading (c ∷ cs) (d ∷ ds) s a b =
    let same : b.nak ≡ a.nak = same_accepted b.nak a.nak (sym b.read ∙ a.read) in
    ap₂ (λ (x : Contents) (y : List Contents). x ∷ y) (sym a.holds ∙ ap (contents_in s) (sym same) ∙ b.holds)
    (one_reading cs ds (drop (pdu_length a.nak.header) s) a.rest (subst (λ (n : Nak). ReadAs ds (drop (pdu_length n.header) s)) same b.rest))

-- ---- what was written

-- numbers by turns, and back
turns_back : (n : ℕ) (ns : List ℕ) → length ns ≡ 2 * n → flat (by_turns ns) ≡ ns
turns_back n [] e = refl
turns_back n (a ∷ []) e = absurd (omega arith)
turns_back zero (a ∷ b ∷ ns) e = absurd (omega arith)
turns_back (suc n) (a ∷ b ∷ ns) e = ap (λ (x : List ℕ). a ∷ b ∷ x) (turns_back n ns (omega arith))

-- half as many pairs as numbers
pub turns_length : (ns : List ℕ) → length (by_turns ns) ≡ length ns / 2
turns_length [] = refl
turns_length (a ∷ []) = refl
turns_length (a ∷ b ∷ ns) = omega (arith, turns_length ns)

-- the bytes of a NAK that holds c
bytes_for : Contents → List ℕ
bytes_for c = nak_bytes c.header c.start c.end (flat c.pairs)

module _ (k : Archived) where
  -- the NAK that is read, and that it is, with anything behind it
  abbrev as_read : Nak
  as_read = read_as k.written.header k.start k.end (length k.numbers / 2)

  pub archived_back : (t : List ℕ) → ReadsBack k.written.header k.start k.end k.numbers (bytes_of k ++ t)
  archived_back t = written_reads_back k.file k.header k.start k.end k.room k.numbers t k.written k.scope k.lent k.taken

  has : ToWrite k.file k.header k.start k.end (length k.numbers) k.room k.written
  has = to_write k.file k.header k.start k.end (length k.numbers) k.room k.written (sym k.taken)

  -- it has P bytes
  pub archived_length : length (bytes_of k) ≡ pdu_length k.written.header
  unfolding nak_bytes nak_over area_start
  archived_length =
      let h = k.written.header in
      let area = numbers_bytes (size_width h.file) k.numbers in
      let size : length area ≡ size_width k.file * length k.numbers = numbers_length _ k.numbers
      ∙ ap (λ (f : LargeFileFlag). size_width f * length k.numbers) has.flag in
      over_length h (nak_data h.file k.start k.end area) (omega (arith, data_length_lem h.file k.start k.end area, size, has.whole, pdu_sum h))

  -- and what it holds decides them
  bytes_for_lem : bytes_of k ≡ bytes_for (contents_of k)
  unfolding bytes_for
  bytes_for_lem = ap (nak_bytes k.written.header k.start k.end) (sym (turns_back _ k.numbers has.own.even))

pub archived_is_whole : ArchivedIsWhole
archived_is_whole k = record { nak = as_read k; read = ap (run reading_nak) (sym (append-nil (bytes_of k))) ∙ (archived_back k []).read; ends = archived_length k }

pub no_beginning : NoBeginning
no_beginning j k t e = no_whole_beginning (bytes_of j) (bytes_of k) t (archived_is_whole j) (archived_is_whole k) e

pub archive_reads_back : ArchiveReadsBack
archive_reads_back [] = refl
archive_reads_back (k ∷ ks) =
    let b = archived_back k (archive ks) in
    record {
      nak = as_read k;
      read = b.read;
      holds = λ i. record { header = k.written.header; start = k.start; end = k.end; pairs = b.pairs i };
      rest =
          subst (ReadAs (map contents_of ks)) (sym (drop_at (bytes_of k) (archive ks) (pdu_length k.written.header) (archived_length k)))
          (archive_reads_back ks);
    }

pub one_list : OneList
one_list js ks e =
    let same = one_reading (map contents_of js) (map contents_of ks) (archive js) (archive_reads_back js)
    (subst (ReadAs (map contents_of ks)) (sym e) (archive_reads_back ks)) in
    (sym (length-map js contents_of) ∙ ap length same ∙ length-map ks contents_of, same)

archive_for : (ks : List Archived) → archive ks ≡ end_to_end (map bytes_for (map contents_of ks))
archive_for [] = refl
archive_for (k ∷ ks) = ap₂ (λ (x y : List ℕ). x ++ y) (bytes_for_lem k) (archive_for ks)

pub same_bytes : SameBytes
same_bytes js ks e = archive_for js ∙ ap (λ (cs : List Contents). end_to_end (map bytes_for cs)) e ∙ sym (archive_for ks)

-- ---- and what the code left in a buffer

pub writer_leaves : WriterLeaves
writer_leaves file h start end numbers s w scope lent e =
    let k : Archived = record { file = file; header = h; start = start; end = end; numbers = numbers; room = length s; written = w; scope = scope; lent = lent; taken = e } in
    record {
      nak = k;
      contents = refl;
      bytes =
          ap (take w.length) (begins_with file h start end numbers s w e) ∙ take_at (bytes_of k) _ w.length (archived_length k ∙ sym (has k).length_is);
    }

-- the n numbers of w bytes from `at` on
numbers_from : ℕ → ℕ → ℕ → List ℕ → List ℕ
numbers_from w zero at s = []
numbers_from w (suc n) at s = number_at s at w ∷ numbers_from w n (at + w) s

-- so many they are, each has at most w bytes, and their bytes are those that stand there
from_length : (w n at : ℕ) (s : List ℕ) → length (numbers_from w n at s) ≡ n
unfolding numbers_from
from_length w zero at s = refl
from_length w (suc n) at s = ap suc (from_length w n (at + w) s)

from_lent : (w n at : ℕ) (s : List ℕ) → Bytes s → Lent w (numbers_from w n at s)
unfolding numbers_from
from_lent w zero at s h i = omega (arith, number_lt s at w h)
from_lent w (suc n) at s h zero = number_lt s at w h
from_lent w (suc n) at s h (suc i) = from_lent w n (at + w) s h i

from_bytes : (w n at : ℕ) (s : List ℕ) → Bytes s → at + w * n ≤ length s → numbers_bytes w (numbers_from w n at s) ≡ take (w * n) (drop at s)
unfolding numbers_from numbers_bytes
from_bytes w zero at s h l = ap (λ (j : ℕ). take j (drop at s)) (let z : 0 ≡ w * 0 = omega arith in z)
from_bytes w (suc n) at s h l =
    let m : w + w * n ≡ w * suc n = omega arith in
    ap₂ (λ (x y : List ℕ). x ++ y) (number_bytes s at w h (omega arith))
    (from_bytes w n (at + w) s h (omega arith) ∙ ap (take (w * n)) (sym (drop-drop w at s)))
    ∙ sym (take-add w (w * n) (drop at s))
    ∙ ap (λ (j : ℕ). take j (drop at s)) m

-- a finished NAK is one that was written with the numbers that its area is
module _ (r : ReservedNak) (start end : ℕ) (s : List ℕ) (w : PduWritten) (scope : Lent 8 (start ∷ end ∷ [])) (bytes : Bytes s) (e : finishing r start end (length s) ≡ accepted w) where
  abbrev W : ℕ
  W = size_width r.header.file

  could : ToWrite r.header.file r.header start end (2 * r.count) (length s) w
  could = to_write r.header.file r.header start end (2 * r.count) (length s) w (finish_writes r start end (length s) w (sym e))

  ns : List ℕ
  ns = numbers_from W (2 * r.count) (area_start w.header) s

  ns_length : length ns ≡ 2 * r.count
  unfolding ns
  ns_length = from_length W (2 * r.count) (area_start w.header) s

  ns_lent : Lent W ns
  unfolding ns
  ns_lent = from_lent W (2 * r.count) (area_start w.header) s bytes

  area_is : numbers_bytes W ns ≡ area_in w.header s
  unfolding ns area_in
  area_is =
      let a = area_before r.header.file r.header start end (2 * r.count) (length s) w could in
      let n : W * (2 * r.count) ≡ data_end w.header - area_start w.header = omega arith in
      let fit : area_start w.header + W * (2 * r.count) ≤ length s = omega (arith, could.whole, could.room_is) in
      from_bytes W (2 * r.count) (area_start w.header) s bytes fit ∙ ap (λ (j : ℕ). take j (drop (area_start w.header) s)) n

  kept : w.header ≡ keeping r.header r.count
  kept = could.header_is ∙ ap (keeping r.header) (let half : (2 * r.count) / 2 ≡ r.count = omega arith in half)

  even : length ns ≡ 2 * (length ns / 2)
  even = omega (arith, ns_length)

  pairs_are : by_turns ns ≡ pairs_of w.header.file (area_in w.header s)
  pairs_are = sym (pairs_back r.header.file ns even ns_lent) ∙ ap₂ pairs_of (sym could.flag) area_is

  finished : Left (finished_memory r start end s) w.length (record { header = w.header; start = start; end = end; pairs = pairs_of w.header.file (area_in w.header s) })
  finished =
      let u = over_numbers r start end ns s w ns_length (ap (λ (h : PduHeader). area_in h s) (sym kept) ∙ sym area_is) e in
      let v = writer_leaves r.header.file r.header start end ns s w scope ns_lent u.answer in
      record {
        nak = v.nak;
        contents = v.contents ∙ λ i. record { header = w.header; start = start; end = end; pairs = pairs_are i };
        bytes = ap (take w.length) u.bytes ∙ v.bytes;
      }

pub finish_leaves : FinishLeaves
finish_leaves r start end s w scope bytes e = finished r start end s w scope bytes e
