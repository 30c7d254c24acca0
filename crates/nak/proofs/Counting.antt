-- Most requests for a packet size: the answer at each exit, and that the writer accepts so many and no more.
-- Assumes nothing.
use Prim.Native.Nat.{ℕ, ◌+◌, ◌-◌, ◌*◌, ◌/◌, ◌≤◌, ◌<◌, min}
use mathlib.Core.Path.{◌≡◌, refl, sym, ap, ◌∙◌}
use mathlib.Core.Bool.{true}
use mathlib.Core.List.{List, [], ◌∷◌, ◌++◌}
use native.Mathlib.Omega.{arith}
use borrow.Author.Tests.{lt-ltb, le-ltb, ltb-false}
use Rattle.fields.specs.Answer.{accepted, told, first_of}
use Rattle.fields.proofs.Judging.{Passed, passed, passed_first, passed_last, passed_on, told_is_refused}
use Rattle.header.proofs.Pdus.{refused_directive, with_directive, passes}
use Rattle.header.proofs.Writing.{with_length_lem}
use Rattle.header.proofs.Verifying.{pdu_sum}
use Rattle.header.specs.declared.PduHeader.{PduHeader}
use Rattle.header.specs.declared.flags.Direction.TheVariants.{TowardsSender}
use Rattle.header.specs.declared.flags.LargeFileFlag.{LargeFileFlag}
use Rattle.header.specs.declared.flags.LargeFileFlag.TheVariants.{Normal, Large}
use Rattle.header.specs.Flags.{crc_bit}
use Rattle.header.specs.Header.{pdu_length}
use Rattle.header.specs.Pdu.{directive_tests, judging_directive, writing_pdu}
use Rattle.header.specs.declared.pdu.PduWritten.{PduWritten}
use Rattle.nak.specs.Nak.{pair_size, area_start}
use Rattle.nak.specs.Writing.{data_length, most_pairs, filled, scope_fits, own_tests, writing_nak}
use Rattle.nak.specs.Counting.{least_packet, packet_too_small, by_size, most_requests, of_pairs, MostRequestsFit}
use Rattle.nak.proofs.Tests.{own_pass}
use Rattle.nak.proofs.Writing.{to_write}

pub least_is : (h : PduHeader) (a b : ℕ) → a ≡ area_start h → b ≡ crc_bit h.crc → a + 2 * b ≡ least_packet h
unfolding least_packet
least_is h a b p q = rw (p, q)

pub refused_count : (h : PduHeader) (size : ℕ) (ns : List ℕ) → told ns ≡ judging_directive h → told ns ≡ most_requests h size
unfolding most_requests
refused_count h size ns e = refused_directive h (packet_too_small h size ∷ []) _ ns e

module _ (h : PduHeader) (size : ℕ) (good : Passed (directive_tests h)) (least : ℕ) (is : least ≡ least_packet h) where
  rest : most_requests h size ≡ first_of (packet_too_small h size ∷ []) (min (by_size h size) (most_pairs h.file))
  unfolding most_requests
  rest = passed_on (directive_tests h) _ _ good

  pub too_small : size < least → told (15 ∷ []) ≡ most_requests h size
  too_small l = rw (told_is_refused 15 _ refl, rest, ← is, lt-ltb _ _ l)

  module _ (pair most : ℕ) (pp : pair ≡ pair_size h.file) (pm : most ≡ most_pairs h.file) (l : least ≤ size) where
    pub counted : accepted (min ((size - least) / pair) most) ≡ most_requests h size
    counted = rw (rest, ← is, le-ltb _ _ l, ← pp, ← pm)

-- ---- so many are accepted by the writer, and no more

-- m pairs fit so many bytes exactly where m is at most their quotient
pairs_in_lem : (file : LargeFileFlag) (n m : ℕ) → m ≤ n / pair_size file → m * pair_size file ≤ n
pairs_in_lem Normal n m l = omega arith
pairs_in_lem Large n m l = omega arith

pairs_of_lem : (file : LargeFileFlag) (n m : ℕ) → m * pair_size file ≤ n → m ≤ n / pair_size file
pairs_of_lem Normal n m l = omega arith
pairs_of_lem Large n m l = omega arith

-- direction, file flag and length are not judged
filled_passes : (file : LargeFileFlag) (n : ℕ) (h : PduHeader) → Passed (directive_tests h) → Passed (directive_tests (filled file n h))
unfolding filled
filled_passes file n h p = rw (with_directive TowardsSender file (data_length file h.crc n) h) p

-- a NAK of m pairs has the bytes of one with none, and those of the pairs
length_of_lem : (h : PduHeader) (m : ℕ) → pdu_length (filled h.file m h) ≡ least_packet h + m * pair_size h.file
unfolding least_packet area_start filled data_length
length_of_lem h m =
    let d = data_length h.file h.crc m in
    omega (arith, pdu_sum (filled h.file m h), with_length_lem TowardsSender h.file d h)

module _ (h : PduHeader) (start end size n : ℕ) (scope : scope_fits h.file start end ≡ true) (e : most_requests h size ≡ accepted n) where
  abbrev most_of : ℕ
  most_of = min (by_size h size) (most_pairs h.file)

  -- the record is good, the size is not below the least, and the count is the smaller of both
  counts : (Passed (directive_tests h) × (least_packet h ≤ size)) × (n ≡ most_of)
  unfolding most_requests
  counts =
      let p = passed (directive_tests h ++ (packet_too_small h size ∷ [])) n most_of (sym e) in (
        (
          passed_first (directive_tests h) (packet_too_small h size ∷ []) p.0,
          ltb-false _ _ (passed_last (directive_tests h) (packet_too_small h size ∷ []) p.0).0,
        ),
        p.1,
      )

  fits : (m : ℕ) → m ≤ n → writing_nak h.file h start end (2 * m) size ≡ accepted (of_pairs h m)
  unfolding writing_nak
  fits m l =
      let c = counts in
      let k : m ≤ min (by_size h size) (most_pairs h.file) = rw c.1 at l in
      let b : (m ≤ by_size h size) × (m ≤ most_pairs h.file) = (omega arith, omega arith) in
      let half : (2 * m) / 2 ≡ m = omega arith in
      let own = own_pass h.file start end (2 * m) (omega arith) scope (rw half b.1) in
      let room : pdu_length (filled h.file m h) ≤ size = omega (arith, length_of_lem h m, pairs_in_lem h.file (size - least_packet h) m b.0, c.0.1) in
      ap (λ (n : ℕ). writing_pdu (filled h.file n h) (own_tests h.file start end (2 * m)) size) half
      ∙ sym (passes (filled h.file m h) (own_tests h.file start end (2 * m)) size (filled_passes h.file m h c.0.0) own room)

  no_more : (m : ℕ) (w : PduWritten) → n < m → writing_nak h.file h start end (2 * m) size ≡ accepted w → ⊥
  no_more m w l d =
      let z = to_write h.file h start end (2 * m) size w (sym d) in
      let half : (2 * m) / 2 ≡ m = omega arith in
      let is : w.header ≡ filled h.file m h = z.header_is ∙ ap (λ (k : ℕ). filled h.file k h) half in
      let long : pdu_length (filled h.file m h) ≤ size = omega (arith, z.room_is, ap pdu_length is) in
      let a = pairs_of_lem h.file (size - least_packet h) m (omega (arith, length_of_lem h m, long)) in
      let b : m ≤ most_pairs h.file = rw half at z.own.fewer in
      omega (arith, counts.1)

pub most_requests_fit : MostRequestsFit
most_requests_fit h start end size n scope e = record { fit = fits h start end size n scope e; more = no_more h start end size n scope e }
