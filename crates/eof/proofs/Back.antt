-- The data of an EOF that was written reads back, field by field.
-- Assumes nothing.
use Prim.Native.Nat.{ℕ, ◌+◌, ◌*◌, ◌/◌, ◌^◌, ◌≤◌, ◌<◌}
use mathlib.Core.Path.{◌≡◌, refl, ap, ◌∙◌}
use mathlib.Core.List.{List, [], ◌∷◌, ◌++◌, append_assoc}
use native.Mathlib.Omega.{arith}
use lib.ListN.{length, get_or, length-append}
use lib.Seq.{drop_at}
use borrow.Author.Tests.{le-ltb}
use Rattle.fields.specs.BigEndian.{be_bytes, number_at}
use Rattle.fields.specs.Answer.{accepted}
use Rattle.fields.specs.Staged.{run}
use Rattle.fields.proofs.BigEndian.{be_length, number_back}
use Rattle.fields.proofs.Judging.{Passed, all_passed}
use Rattle.header.specs.declared.PduHeader.{PduHeader}
use Rattle.header.specs.declared.flags.LargeFileFlag.{LargeFileFlag}
use Rattle.header.specs.Flags.{crc_bit, crc_laws}
use Rattle.header.specs.Header.{header_length, data_end}
use Rattle.header.specs.Size.{size_width}
use Rattle.header.specs.Condition.{reserved_condition}
use Rattle.header.specs.Pdu.{directive_tests, pdu_over}
use Rattle.header.proofs.Sizes.{size_high}
use Rattle.header.proofs.Verifying.{pdu_sum, end_sum}
use Rattle.header.proofs.Codes.{known_range}
use Rattle.header.proofs.PdusBack.{reads_content}
use Rattle.eof.specs.declared.Eof.{Eof}
use Rattle.eof.specs.Fault.{not_a_fault, fault_of, fault_bytes}
use Rattle.eof.specs.Eof.{condition_in, after_size, eof_in}
use Rattle.eof.specs.Reading.{read_tests, reading_eof}
use Rattle.eof.specs.Writing.{eof_data, eof_size, eof_length, filled, own_tests}
use Rattle.eof.specs.Demands.{under}
use Rattle.eof.proofs.Faults.{fault_ten, fault_good, fault_back}
use Rattle.eof.proofs.Data.{good, size_of, length_is}

-- ---- the header that is handed back

filled_length : (e : Eof) (k : PduHeader) → k ≡ filled e → length (eof_data e) + 2 * crc_bit k.crc ≡ k.length
unfolding filled
filled_length e k p = rw p (length_is e)

filled_file : (e : Eof) (k : PduHeader) → k ≡ filled e → k.file ≡ e.header.file
unfolding filled
filled_file e k p = ap (λ (x : PduHeader). x.file) p

-- d is small
filled_small : (e : Eof) → Passed (own_tests e) → (filled e).length < 2 ^ 16
unfolding filled eof_length eof_size
filled_small e p = omega (arith, fault_ten e.fault (good e p).fault_passed, size_high e.header.file, crc_laws.small e.header.crc)

-- ---- the fields

module _ (e : Eof) (small : e.file_checksum < 2 ^ 32) (tests : Passed (own_tests e)) where
  abbrev W : ℕ
  W = size_width e.header.file

  abbrev two : List ℕ
  two = 4 ∷ e.condition * 16 ∷ []

  abbrev checksum : List ℕ
  checksum = be_bytes 4 e.file_checksum

  abbrev size : List ℕ
  size = be_bytes W e.size

  abbrev F : List ℕ
  F = fault_bytes e.fault

  code_is : get_or (eof_data e) 0 0 ≡ 4
  unfolding eof_data
  code_is = refl

  condition_back : condition_in (eof_data e) ≡ e.condition
  unfolding eof_data
  condition_back = let c : e.condition * 16 / 16 ≡ e.condition = omega arith in c

  checksum_back : number_at (eof_data e) 2 4 ≡ e.file_checksum
  unfolding eof_data
  checksum_back =
      let s : eof_data e ≡ two ++ (checksum ++ (size ++ F)) = simp append_assoc in
      ap (λ (x : List ℕ). number_at x 2 4) s ∙ number_back two (size ++ F) 2 4 e.file_checksum refl small

  size_back : number_at (eof_data e) 6 W ≡ e.size
  unfolding eof_data
  size_back =
      let s : eof_data e ≡ (two ++ checksum) ++ (size ++ F) = append_assoc (two ++ checksum) size F in
      let l : length (two ++ checksum) ≡ 6 = simp be_length in
      ap (λ (x : List ℕ). number_at x 6 W) s ∙ number_back (two ++ checksum) F 6 W e.size l (good e tests).size_fits

  rest_back : after_size e.header.file (eof_data e) ≡ F
  unfolding eof_data
  rest_back =
      let l : length ((two ++ checksum) ++ size) ≡ 6 + W = simp (length-append, be_length) (omega arith) in
      drop_at ((two ++ checksum) ++ size) F (6 + W) l

  module _ (k : PduHeader) (pf : k.file ≡ e.header.file) where
    behind_back : after_size k.file (eof_data e) ≡ F
    behind_back = ap (λ (f : LargeFileFlag). after_size f (eof_data e)) pf ∙ rest_back

    eof_back : eof_in k (eof_data e) ≡ under k e
    unfolding eof_in
    eof_back =
        let sz : number_at (eof_data e) 6 (size_width k.file) ≡ e.size = ap (λ (f : LargeFileFlag). number_at (eof_data e) 6 (size_width f)) pf ∙ size_back in
        let fl : fault_of (after_size k.file (eof_data e)) ≡ e.fault = ap fault_of behind_back ∙ fault_back e.fault (good e tests).fault_passed in
        λ i. record { header = k; condition = condition_back i; file_checksum = checksum_back i; size = sz i; fault = fl i }

    tests_pass : header_length k + length (eof_data e) ≡ data_end k → Passed (read_tests k (eof_data e))
    unfolding read_tests eof_size own_tests
    tests_pass sz =
        let w : size_width k.file ≡ W = ap size_width pf in
        let l : header_length k + (6 + size_width k.file) ≤ data_end k = omega (arith, size_of e) in
        let condition = ap (λ (c : ℕ). (reserved_condition c).holds) condition_back ∙ tests.0 in
        let fault = ap (λ (v : List ℕ). (not_a_fault v).holds) behind_back ∙ fault_good e.fault (good e tests).fault_passed in
        (le-ltb _ _ l, (condition, (fault, tt)))

  pub reads_back : (k : PduHeader) (t : List ℕ) → k ≡ filled e → Passed (directive_tests k) → run reading_eof (pdu_over k (eof_data e) ++ t) ≡ accepted (under k e)
  unfolding reading_eof eof_size
  reads_back k t pk ok =
      let pf = filled_file e k pk in
      let sz : header_length k + length (eof_data e) ≡ data_end k = omega (arith, filled_length e k pk, pdu_sum k, end_sum k) in
      let two : 2 ≤ length (eof_data e) = omega (arith, size_of e) in
      reads_content k (eof_data e) t ok (filled_length e k pk) two (rw pk (filled_small e tests)) 4 (known_range 4 (omega arith) (omega arith)) code_is read_tests eof_in
      ∙ all_passed (read_tests k (eof_data e)) (eof_in k (eof_data e)) (tests_pass k pf sz)
      ∙ ap accepted (eof_back k pf)
