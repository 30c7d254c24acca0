-- Writing a NAK: what an accepted write has, and the writers' needs, from what their calls left in the buffer. Once for both widths.
-- Assumes nothing.
use Prim.Native.Nat.{ℕ, ◌+◌, ◌*◌, ◌/◌, ◌≤◌}
use mathlib.Core.Path.{◌≡◌, refl, sym, ap, ap₂, ◌∙◌}
use mathlib.Core.List.{List, [], ◌∷◌, ◌++◌}
use native.Mathlib.Omega.{arith}
use lib.ListN.{length}
use lib.Seq.{sets, length-sets}
use Rattle.fields.specs.Answer.{Answer, accepted, told, Test, first_of}
use Rattle.fields.proofs.BigEndian.{sets_append}
use Rattle.fields.proofs.Judging.{Passed}
use Rattle.header.specs.declared.PduHeader.{PduHeader}
use Rattle.header.specs.declared.pdu.PduWritten.{PduWritten}
use Rattle.header.specs.declared.flags.CrcFlag.{CrcFlag}
use Rattle.header.specs.declared.flags.LargeFileFlag.{LargeFileFlag}
use Rattle.header.specs.declared.flags.LargeFileFlag.TheVariants.{Normal, Large}
use Rattle.header.specs.Header.{header_length, pdu_length, data_end, crc_length, with_length}
use Rattle.header.specs.Size.{size_width}
use Rattle.header.specs.Pdu.{directive_tests, with_data, beginning, begun_memory, sealed_memory}
use Rattle.header.proofs.Verifying.{pdu_sum, end_sum}
use Rattle.header.proofs.Pdus.{written_has, write_refused, begun_passed, begun_header, data_goes, write_done}
use Rattle.nak.specs.Nak.{pair_size, area_start}
use Rattle.nak.specs.Writing.{numbers_bytes, scope_bytes, nak_data, data_length, filled, scope_too_large, own_tests, writing_nak, nak_memory}
use Rattle.nak.specs.Within.{towards_sender}
use Rattle.nak.proofs.Tests.{OwnPassed, own_passed}
use Rattle.nak.proofs.Storing.{scope_length, data_length_lem, numbers_length}

-- ---- the header that is filled in

-- count numbers of w bytes are so many pairs
pub doubled : (file : LargeFileFlag) (count : ℕ) → count ≡ 2 * (count / 2) → (count / 2) * pair_size file ≡ size_width file * count
doubled Normal count e = omega arith
doubled Large count e = omega arith

pub filled_flag : (file : LargeFileFlag) (n : ℕ) (h : PduHeader) → (filled file n h).file ≡ file
unfolding filled
filled_flag file n h = refl

-- the data of so many numbers have the length that is filled in
pub data_size : (file : LargeFileFlag) (crc : CrcFlag) (start end : ℕ) (numbers : List ℕ) → length numbers ≡ 2 * (length numbers / 2)
    → length (nak_data file start end (numbers_bytes (size_width file) numbers)) + crc_length crc ≡ data_length file crc (length numbers / 2)
unfolding data_length
data_size file crc start end numbers even =
    omega
    (arith, data_length_lem file start end (numbers_bytes (size_width file) numbers), numbers_length (size_width file) numbers, doubled file (length numbers) even)

filled_whole : (file : LargeFileFlag) (h : PduHeader) (count : ℕ) → count ≡ 2 * (count / 2)
    → area_start (filled file (count / 2) h) + size_width file * count + crc_length (filled file (count / 2) h).crc ≡ pdu_length (filled file (count / 2) h)
unfolding area_start filled data_length
filled_whole file h count e = omega (arith, pdu_sum (filled file (count / 2) h), doubled file count e)

-- ---- what an accepted write has

pub record ToWrite (file : LargeFileFlag) (h : PduHeader) (start end count room : ℕ) (w : PduWritten) : Type 0 where
  pub header_is : w.header ≡ filled file (count / 2) h
  pub length_is : w.length ≡ pdu_length w.header
  pub good : Passed (directive_tests w.header)
  pub own : OwnPassed file start end count
  pub flag : w.header.file ≡ file
  pub room_is : pdu_length w.header ≤ room
  pub whole : area_start w.header + size_width file * count + crc_length w.header.crc ≡ pdu_length w.header

pub to_write : (file : LargeFileFlag) (h : PduHeader) (start end count room : ℕ) (w : PduWritten)
    → accepted w ≡ writing_nak file h start end count room → ToWrite file h start end count room w
unfolding writing_nak
to_write file h start end count room w e =
    let F = filled file (count / 2) h in
    let p = written_has F (own_tests file start end count) room w (sym e) in
    let is : w.header ≡ F = ap (λ (x : PduWritten). x.header) p.handed_back_lem in
    let own = own_passed file start end count p.own_passed in
    record {
      header_is = is;
      length_is = ap (λ (x : PduWritten). x.length) p.handed_back_lem ∙ ap pdu_length (sym is);
      good = rw is p.good;
      own = own;
      flag = ap (λ (x : PduHeader). x.file) is ∙ filled_flag file (count / 2) h;
      room_is = rw is p.room_is;
      whole = rw is (filled_whole file h count own.even);
    }

-- the numbers end with the data
pub area_before : (file : LargeFileFlag) (h : PduHeader) (start end count room : ℕ) (w : PduWritten) → ToWrite file h start end count room w
    → area_start w.header + size_width file * count ≡ data_end w.header
area_before file h start end count room w z = omega (arith, z.whole, end_sum w.header)

-- what its own tests said and its header, of the flag and the count that the code has
pub own_as : (f file : LargeFileFlag) (h : PduHeader) (start end count n : ℕ) (o : Answer ℕ) → f ≡ file → n ≡ count
    → o ≡ first_of (own_tests f start end count) (data_length f h.crc (count / 2)) → o ≡ first_of (own_tests file start end n) (data_length file h.crc (n / 2))
own_as f file h start end count n o e q p = rw (q, ← e) p

pub towards_as : (f file : LargeFileFlag) (h j : PduHeader) → f ≡ file → j ≡ towards_sender f h → j ≡ towards_sender file h
towards_as f file h j e p = rw (← e) p

-- ---- the needs of a writer: j is its header as the code has it, o what its own tests said, k the header that it begins with

module _ (file : LargeFileFlag) (h : PduHeader) (start end : ℕ) (numbers s : List ℕ) (j : PduHeader) (pj : j ≡ towards_sender file h) (o : Answer ℕ)
    (own : o ≡ first_of (own_tests file start end (length numbers)) (data_length file h.crc (length numbers / 2))) (k : PduHeader) (pk : k ≡ with_data o j) where
  abbrev T : List Test
  T = own_tests file start end (length numbers)

  abbrev d : ℕ
  d = data_length file h.crc (length numbers / 2)

  abbrev content : List ℕ
  content = nak_data file start end (numbers_bytes (size_width file) numbers)

  pub not_written : (b ns : List ℕ) → told ns ≡ beginning k o (length s) → b ≡ begun_memory k o s
      → (told ns ≡ writing_nak file h start end (length numbers) (length s)) × (b ≡ nak_memory file h start end numbers s)
  unfolding writing_nak nak_memory filled
  not_written b ns e q = write_refused j (towards_sender file h) pj T d o own k pk s content b ns e q

  module _ (p : ℕ) (b : List ℕ) (e : accepted p ≡ beginning k o (length s)) (q : b ≡ begun_memory k o s) where
    z : OwnPassed file start end (length numbers)
    z = own_passed file start end (length numbers) (begun_passed j (towards_sender file h) pj T d o own k pk (length s) p e)

    header_is : k ≡ with_length d (towards_sender file h)
    header_is = begun_header j (towards_sender file h) pj T d o own k pk (length s) p e

    flag : k.file ≡ file
    flag = ap (λ (x : PduHeader). x.file) header_is

    size : length content + crc_length h.crc ≡ d
    size = data_size file h.crc start end numbers z.even

    area_there : area_start k ≡ header_length k + 1 + 2 * size_width file
    unfolding area_start
    area_there = ap (λ (f : LargeFileFlag). header_length k + 1 + 2 * size_width f) flag

    goes : header_length k + length content ≤ length b
    goes = data_goes j (towards_sender file h) pj T d o own k pk s p b e q content size (header_length k) refl

    long : length content ≡ 1 + 2 * size_width file + size_width file * length numbers
    long =
        data_length_lem file start end (numbers_bytes (size_width file) numbers)
        ∙ ap (λ (n : ℕ). 1 + 2 * size_width file + n) (numbers_length (size_width file) numbers)

    pub scope_goes : (area_start k ≤ length b) × Passed (scope_too_large k.file start end ∷ [])
    scope_goes = (omega (arith, area_there, goes, long), rw flag z.scope)

    module _ (b₁ : List ℕ) (q₁ : b₁ ≡ sets b (header_length k) (scope_bytes k.file start end)) where
      pub numbers_go : (n : ℕ) → n ≡ area_start k → (n + size_width file * length numbers ≤ length b₁) × (length numbers ≡ 2 * (length numbers / 2))
      numbers_go n pn = (omega (arith, area_there, goes, long, ap length q₁ ∙ length-sets b (header_length k) (scope_bytes k.file start end)), z.even)

      pub nak_written : (n : ℕ) (b₂ b₃ : List ℕ) → n ≡ area_start k → b₂ ≡ sets b₁ n (numbers_bytes (size_width file) numbers) → b₃ ≡ sealed_memory k b₂
          → (accepted (record { header = k; length = p }) ≡ writing_nak file h start end (length numbers) (length s)) × (b₃ ≡ nak_memory file h start end numbers s)
      unfolding writing_nak nak_memory filled nak_data
      nak_written n b₂ b₃ pn e₂ e₃ =
          let a = header_length k in
          let S = scope_bytes file start end in
          let N = numbers_bytes (size_width file) numbers in
          let at : a + length S ≡ n = omega (arith, area_there, scope_length file start end) in
          let p₂ : b₂ ≡ sets b a (S ++ N) = e₂
          ∙ ap₂ (λ (l : List ℕ) (i : ℕ). sets l i N) (q₁ ∙ ap (λ (f : LargeFileFlag). sets b a (scope_bytes f start end)) flag) (sym at)
          ∙ sym (sets_append S N b a) in
          write_done j (towards_sender file h) pj T d o own k pk s p b e q content size a refl b₂ b₃ p₂ e₃

-- with no list nothing stands between the scope and the checksum
pub none_written : (file : LargeFileFlag) (h : PduHeader) (start end : ℕ) (s : List ℕ) (j : PduHeader) → j ≡ towards_sender file h → (o : Answer ℕ)
    → o ≡ first_of (own_tests file start end 0) (data_length file h.crc (0 / 2))
    → (k : PduHeader) → k ≡ with_data o j → (p : ℕ) (b : List ℕ) → accepted p ≡ beginning k o (length s) → b ≡ begun_memory k o s
    → (b₁ b₂ : List ℕ) → b₁ ≡ sets b (header_length k) (scope_bytes k.file start end) → b₂ ≡ sealed_memory k b₁
    → (accepted (record { header = k; length = p }) ≡ writing_nak file h start end 0 (length s)) × (b₂ ≡ nak_memory file h start end [] s)
unfolding numbers_bytes
none_written file h start end s j pj o own k pk p b e q b₁ b₂ q₁ e₂ =
    nak_written file h start end [] s j pj o own k pk p b e q b₁ q₁ (area_start k) b₁ b₂ refl refl e₂
