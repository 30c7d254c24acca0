-- The data of an ACK: read at each exit, judged, stored, and read back.
-- Assumes nothing.
use Prim.Native.Nat.{ℕ, suc, ◌+◌, ◌-◌, ◌*◌, ◌^◌, ◌≤◌, ◌<◌}
use mathlib.Core.Path.{◌≡◌, refl, sym, ap, ap₂, ◌∙◌}
use mathlib.Core.List.{List, [], ◌∷◌, ◌++◌}
use native.Mathlib.Omega.{arith}
use lib.ListN.{length, get_or, take, drop, set}
use lib.Seq.{sets}
use borrow.Author.Tests.{ltb-false}
use Rattle.fields.specs.Answer.{Answer, accepted, told, Test, first_of, all_of}
use Rattle.fields.specs.Staged.{run}
use Rattle.fields.proofs.Judging.{Passed, all_passed, judged_passed, refused_on, refused_same, refused_after, passed_after}
use Rattle.header.specs.declared.PduHeader.{PduHeader}
use Rattle.header.specs.declared.directive.DirectivePdu.{DirectivePdu}
use Rattle.header.specs.Flags.{crc_bit, crc_laws}
use Rattle.header.specs.Header.{header_length, data_end}
use Rattle.header.specs.Directive.{data_short, reading_own}
use Rattle.header.specs.Pdu.{directive_tests, pdu_over}
use Rattle.header.proofs.Verifying.{pdu_sum, end_sum}
use Rattle.header.proofs.Codes.{known_range}
use Rattle.header.proofs.Directives.{OwnRead, refused_own, read_own, data_reaches}
use Rattle.header.proofs.PdusBack.{reads_content}
use Rattle.ack.specs.declared.Ack.{Ack}
use Rattle.ack.specs.declared.status.TransactionStatus.{TransactionStatus}
use Rattle.ack.specs.Ack.{subtype_of, status_bits, code_tests, acked_in, condition_in, status_in, ack_in}
use Rattle.ack.specs.Reading.{read_tests, reading_ack}
use Rattle.ack.specs.Writing.{ack_data, ack_length, filled, own_tests}
use Rattle.ack.specs.Demands.{under}
use Rattle.ack.proofs.Codes.{codes_fit, subtype_small, status_small, status_back}

-- ---- reading: E is tested, then the two codes

module _ (h : PduHeader) (c : List ℕ) (stop a : ℕ) (pe : stop ≡ data_end h) (pa : a ≡ header_length h) where
  abbrev there : List Test
  there = data_short stop (a + 3) ∷ []

  abbrev codes : List Test
  codes = code_tests (condition_in c) (acked_in c)

  abbrev answer : Answer Ack
  answer = first_of (read_tests h c) (ack_in h c)

  in_order_lem : first_of (there ++ codes) (ack_in h c) ≡ answer
  unfolding read_tests
  in_order_lem = rw (pe, pa)

  pub ack_short : (ns : List ℕ) → told ns ≡ all_of there → told ns ≡ answer
  ack_short ns e = refused_on ns there codes tt (ack_in h c) e ∙ in_order_lem

  module _ (p : accepted tt ≡ all_of there) where
    reaches : Passed there
    reaches = judged_passed there p

    pub three : header_length h + length c ≡ stop → 3 ≤ length c
    three size = omega (arith, ltb-false stop (a + 3) reaches.0)

    pub ack_refused : (ns : List ℕ) → told ns ≡ all_of codes → told ns ≡ answer
    ack_refused ns e = refused_after there codes reaches (ack_in h c) tt ns e ∙ in_order_lem

    pub ack_read : (t : TransactionStatus) → accepted tt ≡ all_of codes → t ≡ status_in c
        → accepted (record { header = h; acked = acked_in c; condition = condition_in c; status = t }) ≡ answer
    unfolding ack_in
    ack_read t q e = rw e (passed_after there codes reaches (ack_in h c) (judged_passed codes q) ∙ in_order_lem)

pub refused_ack : (s ns : List ℕ) → told ns ≡ run (reading_own 6) s → told ns ≡ run reading_ack s
unfolding reading_ack
refused_ack s ns e = refused_own 6 read_tests ack_in s ns e

pub read_ack : (s : List ℕ) (d : DirectivePdu) (a : ℕ) → accepted d ≡ run (reading_own 6) s → a ≡ header_length d.header
    → OwnRead d.header s d.stop a × (first_of (read_tests d.header (take (d.stop - a) (drop a s))) (ack_in d.header (take (d.stop - a) (drop a s))) ≡ run reading_ack s)
unfolding reading_ack
read_ack s d a e p = read_own 6 read_tests ack_in s d a e p

-- ---- judging

module _ (a : Ack) where
  pub bad_codes : (ns : List ℕ) → told ns ≡ all_of (code_tests a.condition a.acked) → told ns ≡ first_of (own_tests a) (ack_length a)
  unfolding own_tests
  bad_codes ns e = refused_same ns (code_tests a.condition a.acked) tt (ack_length a) e

  pub good_codes : (b : ℕ) → accepted tt ≡ all_of (code_tests a.condition a.acked) → b ≡ crc_bit a.header.crc
      → accepted (3 + 2 * b) ≡ first_of (own_tests a) (ack_length a)
  unfolding own_tests ack_length
  good_codes b e p = let ts = code_tests a.condition a.acked in rw p (sym (all_passed ts (ack_length a) (judged_passed ts e)))

-- ---- storing

pub record Bytes (a : Ack) : Type 0 where
  pub directive : a.acked * 16 + subtype_of a.acked < 256
  pub state : a.condition * 16 + status_bits a.status < 256

pub are_bytes : (a : Ack) → Passed (own_tests a) → Bytes a
unfolding own_tests
are_bytes a p =
    let f = codes_fit a.condition a.acked p in
    record { directive = omega (arith, f.acked_low, subtype_small a.acked); state = omega (arith, f.condition_low, status_small a.status) }

pub data_size : (a : Ack) → length (ack_data a) ≡ 3
unfolding ack_data
data_size a = refl

pub length_is : (a : Ack) → length (ack_data a) + 2 * crc_bit a.header.crc ≡ ack_length a
unfolding ack_length
length_is a = omega (arith, data_size a)

pub data_stored : (a : Ack) (at x y : ℕ) (s : List ℕ) → x ≡ subtype_of a.acked → y ≡ status_bits a.status
    → set (set (set s at 6) (at + 1) (a.acked * 16 + x)) (at + 2) (a.condition * 16 + y) ≡ sets s at (ack_data a)
unfolding ack_data
data_stored a at x y s p q =
    let e : at + 1 ≡ suc at = omega arith in
    let f : at + 2 ≡ suc (suc at) = omega arith in
    rw (e, f, p, q)

-- ---- reading back

filled_small : (a : Ack) → (filled a).length < 2 ^ 16
unfolding filled ack_length
filled_small a = omega (arith, crc_laws.small a.header.crc)

filled_length : (a : Ack) (k : PduHeader) → k ≡ filled a → length (ack_data a) + 2 * crc_bit k.crc ≡ k.length
unfolding filled
filled_length a k p = rw p (length_is a)

first_is : (a : Ack) → get_or (ack_data a) 0 0 ≡ 6
unfolding ack_data
first_is a = refl

acked_back : (a : Ack) → acked_in (ack_data a) ≡ a.acked
unfolding ack_data
acked_back a = omega (arith, subtype_small a.acked)

condition_back : (a : Ack) → condition_in (ack_data a) ≡ a.condition
unfolding ack_data
condition_back a = omega (arith, status_small a.status)

status_is : (a : Ack) → status_in (ack_data a) ≡ a.status
unfolding ack_data
status_is a = status_back a.status a.condition

pub reads_back : (a : Ack) (k : PduHeader) (t : List ℕ) → Passed (own_tests a) → k ≡ filled a → Passed (directive_tests k)
    → run reading_ack (pdu_over k (ack_data a) ++ t) ≡ accepted (under k a)
unfolding reading_ack own_tests
reads_back a k t good pk ok =
    let c = ack_data a in
    let l : 3 ≤ length c = omega (arith, data_size a) in
    let sz : header_length k + length c ≡ data_end k = omega (arith, filled_length a k pk, pdu_sum k, end_sum k) in
    let there : accepted tt ≡ all_of (data_short (data_end k) (header_length k + 3) ∷ []) = data_reaches (data_end k) (header_length k + 3) (omega arith) in
    let codes : all_of (code_tests (condition_in c) (acked_in c)) ≡ accepted tt = ap₂ (λ (x y : ℕ). all_of (code_tests x y)) (condition_back a)
    (acked_back a)
    ∙ all_passed (code_tests a.condition a.acked) tt good in
    reads_content k c t ok (filled_length a k pk) (omega arith) (rw pk (filled_small a)) 6 (known_range 6 (omega arith) (omega arith)) (first_is a) read_tests ack_in
    ∙ sym (ack_read k c (data_end k) (header_length k) refl refl there (status_in c) (sym codes) refl)
    ∙ ap accepted (λ i. record { header = k; acked = acked_back a i; condition = condition_back a i; status = status_is a i })

-- ---- what the proofs of these functions cite

pub ruleset for_ack_in = (ack_short, three, ack_refused, ack_read)
