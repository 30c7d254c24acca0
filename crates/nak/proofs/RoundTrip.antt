-- DEMAND 2 for NAKs: what is written reads back: the header handed back, scope and pairs. Once over the widths, with and without CRC.
-- Assumes nothing.
use Rattle.std.specs.Prelude.{Ok}
use Prim.Native.Nat.{ℕ, zero, suc, ◌+◌, ◌-◌, ◌*◌, ◌/◌, ◌^◌, ◌≤◌, ◌<◌}
use mathlib.Core.Path.{◌≡◌, refl, sym, ap, ap₂, subst, ◌∙◌}
use mathlib.Core.Bool.{true}
use mathlib.Core.List.{List, [], ◌∷◌, ◌++◌, append_assoc}
use native.Mathlib.Omega.{arith}
use lib.Dec.{lit<, lit≤}
use lib.ListN.{length, get_or, drop, length-append}
use borrow.Author.Tests.{le-ltb}
use Rattle.fields.specs.BigEndian.{be_bytes, number_at}
use Rattle.fields.specs.Answer.{accepted}
use Rattle.fields.specs.Staged.{run}
use Rattle.fields.proofs.BigEndian.{be_length, number_back, one_byte}
use Rattle.fields.proofs.Judging.{Passed, all_passed}
use Rattle.header.specs.declared.PduHeader.{PduHeader}
use Rattle.header.specs.declared.pdu.PduWritten.{PduWritten}
use Rattle.header.specs.declared.flags.CrcFlag.TheVariants.{NoCrc, WithCrc}
use Rattle.header.specs.declared.flags.LargeFileFlag.{LargeFileFlag}
use Rattle.header.specs.declared.flags.LargeFileFlag.TheVariants.{Normal, Large}
use Rattle.header.specs.Header.{header_length, pdu_length, data_end, crc_length}
use Rattle.header.specs.Size.{size_width}
use Rattle.header.specs.Pdu.{directive_tests, pdu_over}
use Rattle.header.proofs.Codes.{known_range}
use Rattle.header.proofs.Verifying.{pdu_sum, end_sum}
use Rattle.header.proofs.Sizes.{size_low}
use Rattle.header.proofs.Pdus.{memory_has}
use Rattle.header.proofs.PdusBack.{reads_content, content_there, over_length}
use Rattle.nak.specs.Nak.{nak_code, pair_size, area_start, nak_in}
use Rattle.nak.specs.Reading.{reading_nak}
use Rattle.nak.specs.Requests.{area_of, pairs_from, pairs_of}
use Rattle.nak.specs.Writing.{numbers_bytes, scope_bytes, nak_data, nak_over, nak_bytes, data_length, filled, scope_fits, own_tests, writing_nak, nak_memory}
use Rattle.nak.specs.Demands.{by_turns, Lent, read_as, MostPairsFit, WrittenReadsBack, CodeReadsBack}
use Rattle.nak.proofs.Reading.{read_tests}
use Rattle.nak.proofs.Walking.{within}
use Rattle.nak.proofs.Tests.{scope_passed, scope_fits_lem}
use Rattle.nak.proofs.Storing.{scope_length, data_length_lem, numbers_length}
use Rattle.nak.proofs.Writing.{ToWrite, to_write}
use Rattle.fields.proofs.OneToOne.{one_answer}

-- ---- the pairs, once over the width

pairs_at : (w n : ℕ) (pre ns : List ℕ) → length ns ≡ 2 * n → Lent w ns → pairs_from w (pre ++ numbers_bytes w ns) (length pre) n ≡ by_turns ns
unfolding numbers_bytes
pairs_at w zero pre [] e h = refl
pairs_at w zero pre (a ∷ ns) e h = absurd (omega arith)
pairs_at w (suc n) pre [] e h = absurd (omega arith)
pairs_at w (suc n) pre (a ∷ []) e h = absurd (omega arith)
pairs_at w (suc n) pre (a ∷ b ∷ ns) e h =
    let A = pre ++ numbers_bytes w (a ∷ b ∷ ns) in
    let s2 : A ≡ (pre ++ be_bytes w a) ++ (be_bytes w b ++ numbers_bytes w ns) = simp append_assoc in
    let s3 : A ≡ ((pre ++ be_bytes w a) ++ be_bytes w b) ++ numbers_bytes w ns = simp append_assoc in
    let l2 : length (pre ++ be_bytes w a) ≡ length pre + w = simp (length-append, be_length) in
    let l3 : length ((pre ++ be_bytes w a) ++ be_bytes w b) ≡ length pre + 2 * w = simp (length-append, be_length) (omega arith) in
    let x : number_at A (length pre) w ≡ a = number_back pre (be_bytes w b ++ numbers_bytes w ns) (length pre) w a refl (h 0) in
    let y : number_at A (length pre + w) w ≡ b = rw s2 (number_back (pre ++ be_bytes w a) (numbers_bytes w ns) (length pre + w) w b l2 (h 1)) in
    let t : pairs_from w A (length pre + 2 * w) n ≡ by_turns ns = rw (s3, ← l3)
    (pairs_at w n ((pre ++ be_bytes w a) ++ be_bytes w b) ns (omega arith) (λ i. h (suc (suc i)))) in
    ap₂ (λ (p : ℕ × ℕ) (m : List (ℕ × ℕ)). p ∷ m) (ap₂ (λ (p q : ℕ). (p, q)) x y) t

pub halves : (file : LargeFileFlag) (count : ℕ) → count ≡ 2 * (count / 2) → size_width file * count / pair_size file ≡ count / 2
halves Normal count e = omega arith
halves Large count e = omega arith

pub pairs_back : (file : LargeFileFlag) (ns : List ℕ) → length ns ≡ 2 * (length ns / 2) → Lent (size_width file) ns
    → pairs_of file (numbers_bytes (size_width file) ns) ≡ by_turns ns
unfolding pairs_of
pairs_back file ns e h =
    ap (pairs_from (size_width file) (numbers_bytes (size_width file) ns) 0)
    (ap (λ (j : ℕ). j / pair_size file) (numbers_length (size_width file) ns) ∙ halves file (length ns) e)
    ∙ pairs_at (size_width file) (length ns / 2) [] ns e h

-- ---- how many pairs fit

pub most_pairs_fit : MostPairsFit
unfolding data_length
most_pairs_fit Normal NoCrc = record { fit = λ n l. omega arith; more = λ n l. omega arith }
most_pairs_fit Normal WithCrc = record { fit = λ n l. omega arith; more = λ n l. omega arith }
most_pairs_fit Large NoCrc = record { fit = λ n l. omega arith; more = λ n l. omega arith }
most_pairs_fit Large WithCrc = record { fit = λ n l. omega arith; more = λ n l. omega arith }

-- ---- a NAK over an area of whole pairs

module _ (k : PduHeader) (start end count : ℕ) (area t : List ℕ) (good : Passed (directive_tests k)) (scope : scope_fits k.file start end ≡ true)
    (size : length area ≡ size_width k.file * count) (whole : area_start k + size_width k.file * count + crc_length k.crc ≡ pdu_length k) (small : k.length < 2 ^ 16) where
  abbrev W : ℕ
  W = size_width k.file

  C : List ℕ
  C = nak_data k.file start end area

  c_length : length C ≡ 1 + 2 * W + length area
  unfolding C
  c_length = data_length_lem k.file start end area

  area_there : area_start k ≡ header_length k + 1 + 2 * W
  unfolding area_start
  area_there = refl

  c_size : length C + crc_length k.crc ≡ k.length
  c_size = omega (arith, c_length, size, whole, pdu_sum k, area_there)

  before : area_start k ≤ data_end k
  before = omega (arith, end_sum k, whole)

  -- the parts, from the front
  first : get_or C 0 0 ≡ nak_code
  unfolding C nak_data scope_bytes
  first =
      let tail = be_bytes W start ++ (be_bytes W end ++ area) in
      let s : C ≡ be_bytes 1 nak_code ++ tail = simp append_assoc in
      ap (λ (x : List ℕ). get_or x 0 0) (s ∙ ap (λ (x : List ℕ). x ++ tail) (one_byte nak_code (lit< tt)))

  start_at : number_at C 1 W ≡ start
  unfolding C nak_data scope_bytes
  start_at =
      let s : C ≡ be_bytes 1 nak_code ++ (be_bytes W start ++ (be_bytes W end ++ area)) = simp append_assoc in
      ap (λ (x : List ℕ). number_at x 1 W) s ∙ number_back (be_bytes 1 nak_code) _ 1 W start (be_length 1 nak_code) (scope_fits_lem k.file start end scope).0

  end_at : number_at C (1 + W) W ≡ end
  unfolding C nak_data scope_bytes
  end_at =
      let pre = be_bytes 1 nak_code ++ be_bytes W start in
      let s : C ≡ pre ++ (be_bytes W end ++ area) = simp append_assoc in
      let l : length pre ≡ 1 + W = simp (length-append, be_length) in
      ap (λ (x : List ℕ). number_at x (1 + W) W) s ∙ number_back pre _ (1 + W) W end l (scope_fits_lem k.file start end scope).1

  nak_is : count ≡ 2 * (count / 2) → nak_in k C ≡ read_as k start end (count / 2)
  unfolding nak_in
  nak_is even =
      let room : data_end k - area_start k ≡ W * count = omega (arith, end_sum k, whole) in
      let pairs : (data_end k - area_start k) / pair_size k.file ≡ count / 2 = ap (λ (j : ℕ). j / pair_size k.file) room ∙ halves k.file count even in
      λ i. record { header = k; start = start_at i; end = end_at i; area = area_start k; stop = data_end k; count = pairs i }

  pub over_reads : count ≡ 2 * (count / 2) → run reading_nak (nak_over k start end area ++ t) ≡ accepted (read_as k start end (count / 2))
  unfolding C nak_over reading_nak
  over_reads even =
      let two : 2 ≤ length C = omega (arith, c_length, size_low k.file) in
      reads_content k C t good c_size two small nak_code (known_range nak_code (lit≤ tt) (lit< tt)) first read_tests nak_in
      ∙ all_passed (read_tests k C) (nak_in k C) (le-ltb _ _ before, tt)
      ∙ ap accepted (nak_is even)

  pub over_area : (n : ℕ) → area_of (read_as k start end n) (nak_over k start end area ++ t) ≡ area
  unfolding C nak_over nak_data
  over_area n =
      let S = scope_bytes k.file start end in
      let N = pdu_over k (S ++ area) in
      let l : length (N ++ t) ≡ pdu_length k + length t = length-append N t ∙ ap (λ (j : ℕ). j + length t) (over_length k (S ++ area) c_size) in
      sym (within (read_as k start end n) (N ++ t) before (omega (arith, end_sum k)))
      ∙ content_there k S area t c_size (data_end k - area_start k) (area_start k) (omega (arith, area_there, scope_length k.file start end))
      (omega (arith, size, whole, end_sum k))

-- ---- what is written reads back

small_length : (file : LargeFileFlag) (h : PduHeader) (start end count room : ℕ) (w : PduWritten) → ToWrite file h start end count room w
    → w.header.length < 2 ^ 16
unfolding filled
small_length file h start end count room w z = rw z.header_is ((most_pairs_fit file h.crc).fit (count / 2) z.own.fewer)

pub written_reads_back : WrittenReadsBack
unfolding nak_bytes
written_reads_back file h start end room numbers t w ends lent e =
    let k = w.header in
    let z = to_write file h start end (length numbers) room w (sym e) in
    let f : size_width file ≡ size_width k.file = sym (ap size_width z.flag) in
    let area = numbers_bytes (size_width k.file) numbers in
    let size : length area ≡ size_width k.file * length numbers = numbers_length (size_width k.file) numbers in
    let whole : area_start k + size_width k.file * length numbers + crc_length k.crc ≡ pdu_length k = ap
    (λ (u : ℕ). area_start k + u * length numbers + crc_length k.crc) (sym f)
    ∙ z.whole in
    let small = small_length file h start end (length numbers) room w z in
    let scope : scope_fits k.file start end ≡ true = ap (λ (x : LargeFileFlag). scope_fits x start end) z.flag
    ∙ scope_passed file start end (ends 0) (ends 1) z.own.scope in
    let is = over_area k start end (length numbers) area t z.good scope size whole small (length numbers / 2) in
    record {
      read = over_reads k start end (length numbers) area t z.good scope size whole small z.own.even;
      area = is;
      pairs = ap (pairs_of k.file) is ∙ pairs_back k.file numbers z.own.even (subst (λ (u : ℕ). Lent u numbers) f lent);
    }

-- the buffer that an accepted write leaves begins with the NAK's bytes
pub begins_with : (file : LargeFileFlag) (h : PduHeader) (start end : ℕ) (numbers s : List ℕ) (w : PduWritten)
    → writing_nak file h start end (length numbers) (length s) ≡ accepted w
    → nak_memory file h start end numbers s ≡ nak_bytes w.header start end numbers ++ drop (length (nak_bytes w.header start end numbers)) s
unfolding nak_memory writing_nak nak_bytes nak_over
begins_with file h start end numbers s w e =
    let over : LargeFileFlag → List ℕ = λ f. pdu_over w.header (nak_data f start end (numbers_bytes (size_width f) numbers)) in
    let z = to_write file h start end (length numbers) (length s) w (sym e) in
    memory_has (filled file (length numbers / 2) h) (own_tests file start end (length numbers)) _ s w e
    ∙ ap (λ (f : LargeFileFlag). over f ++ drop (length (over f)) s) (sym z.flag)

pub code_reads_back : CodeReadsBack
code_reads_back file h start end numbers s w r ends lent e q =
    let k = w.header in
    let N = nak_bytes k start end numbers in
    let m = begins_with file h start end numbers s w e in
    let b = written_reads_back file h start end (length s) numbers (drop (length N) s) w ends lent e in
    let n = read_as k start end (length numbers / 2) in
    (one_answer _ r (Ok n) (q ∙ ap (run reading_nak) m ∙ b.read), ap (λ (x : List ℕ). pairs_of k.file (area_of n x)) m ∙ b.pairs)
