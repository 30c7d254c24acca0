-- A directive PDU that was written, followed by anything, reads back: the header handed back, and its data.
-- Assumes nothing.
use Prim.Native.Nat.{ℕ, ◌+◌, ◌-◌, ◌*◌, ◌^◌, ◌≤◌, ◌<◌}
use mathlib.Core.Path.{◌≡◌, refl, sym, ap, ap₂, ◌∙◌}
use mathlib.Core.Bool.{true}
use mathlib.Core.List.{List, [], ◌∷◌, ◌++◌, append_assoc}
use native.Mathlib.Omega.{arith}
use lib.ListN.{length, get_or, take, drop, length-append}
use lib.Seq.{take_at, drop_at, get_or-append-add}
use borrow.Author.Tests.{eq-eqb}
use Rattle.fields.specs.Answer.{accepted, Test, first_of}
use Rattle.fields.specs.Staged.{run, ◌>>=◌}
use Rattle.fields.proofs.Judging.{Passed}
use Rattle.fields.proofs.Staged.{accepted_bind, run_tests}
use Rattle.header.specs.declared.PduHeader.{PduHeader}
use Rattle.header.specs.Flags.{crc_bit}
use Rattle.header.specs.Header.{header_length, header_bytes, pdu_length, data_end, crc_length}
use Rattle.header.specs.Reading.{reading_header}
use Rattle.header.specs.Verifying.{checksum_bytes}
use Rattle.header.specs.Code.{is_known}
use Rattle.header.specs.Directive.{content_of, reading_directive}
use Rattle.header.specs.Pdu.{directive_tests, pdu_over}
use Rattle.header.specs.Within.{directive_bytes, code_part}
use Rattle.header.proofs.Judging.{sound}
use Rattle.header.proofs.Writing.{header_length_lem}
use Rattle.header.proofs.Verifying.{pdu_sum, end_sum, checksum_length, closed_verifies}
use Rattle.header.proofs.Directives.{directive_passes, staged, reader, next}
use Rattle.header.proofs.Pdus.{directive_good, directive_kind}
use Rattle.header.proofs.Demands.{sound_reads_back}

-- the lengths of its parts
pub over_length : (k : PduHeader) (content : List ℕ) → length content + crc_length k.crc ≡ k.length → length (pdu_over k content) ≡ pdu_length k
unfolding pdu_over
over_length k content size =
    let M = header_bytes k ++ content in
    length-append M (checksum_bytes k.crc M) ∙ omega (arith, length-append (header_bytes k) content, header_length_lem k, checksum_length k.crc M, pdu_sum k)

-- the last part of its data, where it lies in the bytes
pub content_there : (k : PduHeader) (front last t : List ℕ) → length (front ++ last) + crc_length k.crc ≡ k.length → (n at : ℕ)
    → at ≡ header_length k + length front → n ≡ length last
    → take n (drop at (pdu_over k (front ++ last) ++ t)) ≡ last
unfolding pdu_over
content_there k front last t size n at pa pn =
    let H = header_bytes k in
    let S = checksum_bytes k.crc (H ++ (front ++ last)) in
    let e : pdu_over k (front ++ last) ++ t ≡ (H ++ front) ++ (last ++ (S ++ t)) = simp append_assoc in
    let l : length (H ++ front) ≡ at = length-append H front ∙ omega (arith, header_length_lem k) in
    ap (λ (x : List ℕ). take n (drop at x)) e ∙ ap (take n) (drop_at (H ++ front) (last ++ (S ++ t)) at l) ∙ take_at last (S ++ t) n (sym pn)

first_of_lem : (content tail : List ℕ) → 2 ≤ length content → get_or (content ++ tail) 0 0 ≡ get_or content 0 0
first_of_lem [] tail l = absurd (omega arith)
first_of_lem (x ∷ xs) tail l = refl

module _ (k : PduHeader) (content t : List ℕ) (good : Passed (directive_tests k)) (size : length content + 2 * crc_bit k.crc ≡ k.length) (two : 2 ≤ length content) (small : k.length < 2 ^ 16) where
  -- all but the checksum, the checksum, and all
  M : List ℕ
  M = header_bytes k ++ content

  N : List ℕ
  N = pdu_over k content

  n_is : N ≡ M ++ checksum_bytes k.crc M
  unfolding N M pdu_over
  n_is = refl

  n_parts : N ≡ header_bytes k ++ (content ++ checksum_bytes k.crc M)
  unfolding M
  n_parts = n_is ∙ append_assoc (header_bytes k) content (checksum_bytes k.crc M)

  m_length : length M ≡ data_end k
  unfolding M
  m_length = length-append (header_bytes k) content ∙ omega (arith, header_length_lem k, pdu_sum k, end_sum k)

  n_length : length N ≡ pdu_length k
  n_length = ap length n_is ∙ length-append M (checksum_bytes k.crc M) ∙ omega (arith, m_length, checksum_length k.crc M, end_sum k)

  data_size : data_end k ≡ header_length k + length content
  data_size = omega (arith, pdu_sum k, end_sum k)

  seven : 7 ≤ header_length k
  unfolding header_length
  seven = let s = sound k (directive_good k good) in omega (arith, s.entity_low, s.sequence_low)

  header_run : run reading_header (N ++ t) ≡ accepted k
  header_run =
      let S = checksum_bytes k.crc M in
      let e : N ++ t ≡ header_bytes k ++ ((content ++ S) ++ t) = ap (λ (x : List ℕ). x ++ t) n_parts ∙ append_assoc (header_bytes k) (content ++ S) t in
      ap (run reading_header) e ∙ sound_reads_back k ((content ++ S) ++ t) (directive_good k good) small

  bytes_run : run (directive_bytes k) (N ++ t) ≡ accepted N
  bytes_run =
      let l : length (N ++ t) ≡ pdu_length k + length t = length-append N t ∙ ap (λ (j : ℕ). j + length t) n_length in
      let e : data_end k + 2 * crc_bit k.crc ≡ pdu_length k = end_sum k in
      let d = data_size in
      let h7 = seven in
      directive_passes k (N ++ t) N (closed_verifies k M N t n_is n_length) (omega arith) (omega arith) (directive_kind k good) (omega arith)

  content_back : content_of k N ≡ content
  unfolding content_of
  content_back =
      ap (λ (x : List ℕ). take (data_end k - header_length k) (drop (header_length k) x)) n_parts
      ∙ ap (take (data_end k - header_length k)) (drop_at (header_bytes k) (content ++ checksum_bytes k.crc M) (header_length k) (header_length_lem k))
      ∙ take_at content (checksum_bytes k.crc M) (data_end k - header_length k) (omega (arith, data_size))

  code_at : get_or N (header_length k) 0 ≡ get_or content 0 0
  code_at =
      let S = checksum_bytes k.crc M in
      let l : header_length k ≡ length (header_bytes k) + 0 = omega (arith, header_length_lem k) in
      ap₂ (λ (x : List ℕ) (j : ℕ). get_or x j 0) n_parts l ∙ get_or-append-add (header_bytes k) (content ++ S) 0 0 ∙ first_of_lem content S two

  module _ (own : ℕ) (known : is_known own ≡ true) (first : get_or content 0 0 ≡ own) where
    code_run : run (code_part own k N) (N ++ t) ≡ accepted (record { header = k; content = content })
    unfolding code_part
    code_run = rw (code_at, first, known, eq-eqb own own refl, content_back)

    pub pdu_reads : run (reading_directive own) (pdu_over k content ++ t) ≡ accepted (record { header = k; content = content })
    unfolding N
    pdu_reads =
        sym (staged own (N ++ t))
        ∙ sym (accepted_bind reading_header (λ h. directive_bytes h >>= code_part own h) (N ++ t) k (sym header_run))
        ∙ sym (accepted_bind (directive_bytes k) (code_part own k) (N ++ t) N (sym bytes_run))
        ∙ code_run

    -- so its tests and what it accepts are about its data alone
    pub reads_content : {A : Type 0} (ts : PduHeader → List ℕ → List Test) (x : PduHeader → List ℕ → A)
        → run (reader own ts x) (pdu_over k content ++ t) ≡ first_of (ts k content) (x k content)
    reads_content ts x =
        sym (accepted_bind (reading_directive own) (next own ts x) (pdu_over k content ++ t) _ (sym pdu_reads))
        ∙ run_tests (ts k content) (x k content) (pdu_over k content ++ t)
