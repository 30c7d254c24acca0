-- Verifying: the answer at each exit.
-- Assumes nothing.
use Prim.Native.Nat.{ℕ, ◌+◌, ◌-◌, ◌*◌, ◌≤◌, ◌<◌}
use mathlib.Core.Path.{◌≡◌, refl, sym, ap, ◌∙◌}
use mathlib.Core.Bool.{false, ◌&&◌, not}
use mathlib.Core.List.{List, [], ◌∷◌, ◌++◌}
use native.Mathlib.Omega.{arith}
use lib.Dec.{eqb}
use lib.ListN.{length, take, length-append}
use lib.Seq.{length-take-le, take_at}
use borrow.Author.Tests.{lt-ltb, le-ltb, eq-eqb, ne_eqb}
use Rattle.fields.specs.BigEndian.{number_at, be_at, be_put}
use Rattle.fields.specs.Checksum.{checksum_of}
use Rattle.fields.specs.Answer.{accepted, told}
use Rattle.fields.specs.Staged.{run}
use Rattle.fields.specs.Demand3.{AtMost}
use Rattle.fields.proofs.Checksum.{checksum_lt, residue}
use Rattle.fields.proofs.BigEndian.{at_number, be_length, put_beyond, put_sets}
use lib.Seq.{sets}
use Rattle.header.specs.declared.flags.CrcFlag.{CrcFlag}
use Rattle.fields.proofs.Judging.{Passed, told_is_refused, told_is_short}
use Rattle.fields.proofs.Staged.{passed_all, told_before, tests_refused, tests_passed}
use Rattle.header.specs.declared.PduHeader.{PduHeader}
use Rattle.header.specs.declared.flags.CrcFlag.TheVariants.{NoCrc, WithCrc}
use Rattle.header.specs.Flags.{crc_bit, crc_laws}
use Rattle.header.specs.Header.{header_length, pdu_length, data_end}
use Rattle.header.specs.Judging.{record_tests, judging}
use Rattle.header.specs.Verifying.{wrong_checksum, pdu_bytes, verifying, checksum_bytes, crc_added}
use Rattle.header.specs.Within.{verifying_read}

-- a PDU has at least its fixed bytes
pub at_least : (h : PduHeader) (p : ℕ) → p ≡ pdu_length h → 4 ≤ p
unfolding pdu_length header_length
at_least h p e = omega arith

-- p is P
module _ (h : PduHeader) (s : List ℕ) (p : ℕ) (is : p ≡ pdu_length h) where
  pub short_p : length s < p → told (1 ∷ length s ∷ p ∷ []) ≡ run (verifying_read h) s
  unfolding verifying_read pdu_bytes
  short_p l = rw (told_is_short _ _, ← is, lt-ltb _ _ l)

  module _ (long : p ≤ length s) where
    pub no_checksum : h.crc ≡ NoCrc → accepted p ≡ run (verifying_read h) s
    unfolding verifying_read pdu_bytes data_end
    no_checksum f = rw (← is, le-ltb _ _ long, ap crc_bit f) (ap accepted (omega arith))

    module _ (flag : h.crc ≡ WithCrc) (c : ℕ) (sum : c ≡ checksum_of (take p s)) where
      pub bad_checksum : (v : ℕ) → (c ≡ 0 → ⊥) → v ≡ be_at (take p s) (p - 2) 2 → told (5 ∷ v ∷ []) ≡ run (verifying_read h) s
      unfolding verifying_read pdu_bytes
      bad_checksum v n e =
          let k = at_least h p is in
          let r : v ≡ number_at (take p s) (p - 2) 2 = e ∙ at_number _ _ 2 (omega arith) (omega (arith, length-take-le p s long)) in
          rw (told_is_refused 5 _ refl, ← is, le-ltb _ _ long, ap crc_bit flag, ne_eqb _ _ (rw sum at n), r)

      pub good_checksum : c ≡ 0 → accepted (p - 2) ≡ run (verifying_read h) s
      unfolding verifying_read pdu_bytes data_end
      good_checksum z = rw (← is, le-ltb _ _ long, ap crc_bit flag, eq-eqb _ _ (sym sum ∙ z))

-- of any record: what the judgement refuses is refused, and behind a record that passed the stages decide
pub refused_verify : (h : PduHeader) (s ns : List ℕ) → told ns ≡ judging h → told ns ≡ run (verifying h) s
unfolding judging verifying verifying_read
refused_verify h s ns e = tests_refused ns (record_tests h) (verifying_read h) h s e

pub passed_verify : (h : PduHeader) (s : List ℕ) → Passed (record_tests h) → run (verifying h) s ≡ run (verifying_read h) s
unfolding verifying verifying_read
passed_verify h s p = tests_passed (record_tests h) (verifying_read h) s p

-- ---- for the readers above: a PDU that was verified holds its bytes, and a refusal is the same before E is known

pub record Verified (h : PduHeader) (s : List ℕ) (stop : ℕ) : Type 0 where
  pub long : pdu_length h ≤ length s
  pub bytes_are : run (pdu_bytes h) s ≡ accepted (take (pdu_length h) s)
  pub good : (wrong_checksum h (take (pdu_length h) s)).holds ≡ false
  pub stop_is : stop ≡ data_end h

pub verified : (h : PduHeader) (s : List ℕ) (stop : ℕ) → accepted stop ≡ run (verifying_read h) s → Verified h s stop
unfolding verifying_read pdu_bytes
verified h s stop e =
    let p = passed_all (verifying_read h) s stop (sym e) in
    record { long = p.0; bytes_are = rw (le-ltb _ _ p.0, p.1.0); good = p.1.0; stop_is = sym p.1.1 }

pub verified_refused : (h : PduHeader) (s ns : List ℕ) → told ns ≡ run (verifying_read h) s → told ns ≡ run (pdu_bytes h) s
unfolding verifying_read
verified_refused h s ns e = told_before ns (pdu_bytes h) (λ _. data_end h) s e

-- the data ends within the PDU
pub end_le : (h : PduHeader) → data_end h ≤ pdu_length h
unfolding data_end
end_le h = omega arith

-- a PDU asks for its bytes once
pub pdu_one : (h : PduHeader) → AtMost (pdu_bytes h) 1
unfolding pdu_bytes
pdu_one h = λ _. tt

-- ---- the writer's side

pub no_crc : (flag : CrcFlag) (n : ℕ) (s : List ℕ) → flag ≡ NoCrc → s ≡ crc_added flag n s
unfolding crc_added
no_crc flag n s e = rw e

pub crc_nowhere : (flag : CrcFlag) (n : ℕ) (s : List ℕ) → flag ≡ WithCrc → length s < n → s ≡ crc_added flag n s
unfolding crc_added
crc_nowhere flag n s e l = rw e (put_beyond s n 2 (checksum_of (take n s)) (omega arith))

pub with_crc : (flag : CrcFlag) (n c : ℕ) (s b : List ℕ) → flag ≡ WithCrc → c ≡ checksum_of (take n s) → b ≡ be_put s n 2 c → b ≡ crc_added flag n s
unfolding crc_added
with_crc flag n c s b e p q = rw (e, ← p) q

-- with room, what is added are the message's checksum bytes
pub added_sets : (flag : CrcFlag) (n : ℕ) (s : List ℕ) → n + 2 * crc_bit flag ≤ length s → crc_added flag n s ≡ sets s n (checksum_bytes flag (take n s))
unfolding crc_added
added_sets NoCrc n s l = refl
added_sets WithCrc n s l = put_sets s n 2 (checksum_of (take n s)) (omega arith) (omega arith) (checksum_lt (take n s))

pub checksum_length : (flag : CrcFlag) (m : List ℕ) → length (checksum_bytes flag m) ≡ 2 * crc_bit flag
checksum_length NoCrc m = refl
checksum_length WithCrc m = be_length 2 (checksum_of m)

-- P is h and d; E and the checksum are P
pub pdu_sum : (h : PduHeader) → pdu_length h ≡ header_length h + h.length
unfolding pdu_length
pdu_sum h = refl

pub end_sum : (h : PduHeader) → data_end h + 2 * crc_bit h.crc ≡ pdu_length h
unfolding data_end
end_sum h = let l = at_least h (pdu_length h) refl in omega (arith, crc_laws.small h.crc)

-- where the data ends
pub end_from : (h : PduHeader) (b p : ℕ) → b ≡ crc_bit h.crc → p ≡ pdu_length h → (2 * b ≤ p) × (p - 2 * b ≡ data_end h)
end_from h b p e q = (omega (arith, end_sum h), omega (arith, end_sum h))

-- ---- a message that was closed by its checksum verifies, whatever follows it

sum_good : (flag : CrcFlag) (m : List ℕ) → (eqb (crc_bit flag) 1 && not (eqb (checksum_of (m ++ checksum_bytes flag m)) 0)) ≡ false
sum_good NoCrc m = refl
sum_good WithCrc m = rw (residue m)

pub closed_verifies : (h : PduHeader) (m p t : List ℕ) → p ≡ m ++ checksum_bytes h.crc m → length p ≡ pdu_length h → run (pdu_bytes h) (p ++ t) ≡ accepted p
unfolding pdu_bytes
closed_verifies h m p t e l =
    let long : pdu_length h ≤ length (p ++ t) = omega (arith, length-append p t) in
    let first : take (pdu_length h) (p ++ t) ≡ p = take_at p t (pdu_length h) l in
    let good : (eqb (crc_bit h.crc) 1 && not (eqb (checksum_of p) 0)) ≡ false = ap
    (λ (x : List ℕ). eqb (crc_bit h.crc) 1 && not (eqb (checksum_of x) 0)) e
    ∙ sum_good h.crc m in
    rw (le-ltb _ _ long, first, good)
