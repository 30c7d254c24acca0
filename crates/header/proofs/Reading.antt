-- Reading a header: its answer at each exit, and a header made of its parts.
-- Assumes nothing.
use Prim.Native.Nat.{ℕ, ◌+◌, ◌-◌, ◌≤◌, ◌<◌}
use mathlib.Core.Path.{◌≡◌, refl, sym, ◌∙◌}
use mathlib.Core.List.{List, [], ◌∷◌}
use native.Mathlib.Omega.{arith}
use native.Mathlib.Nat.{le_of_eq}
use lib.Dec.{lit<}
use lib.ListN.{length, get_or, take, drop}
use lib.Seq.{get_or-take, length-take-le}
use borrow.Author.Tests.{lt-ltb, le-ltb, eq-eqb, ne_eqb}
use Rattle.fields.specs.declared.field.UnsignedByteField.{UnsignedByteField}
use Rattle.fields.specs.BigEndian.{number_at, be_at}
use Rattle.fields.specs.Answer.{accepted, told, all_of}
use Rattle.fields.specs.Staged.{Staged, accept, ◌>>=◌, ◌>>◌, bytes, tests, run}
use Rattle.fields.specs.Demand3.{AtMost}
use Rattle.fields.proofs.Judging.{Passed, told_is_refused, told_is_short}
use Rattle.fields.proofs.Staged.{tests_refused, tests_passed}
use Rattle.fields.proofs.Parts.{part_read}
use Rattle.header.specs.declared.PduHeader.{PduHeader}
use Rattle.header.specs.declared.flags.PduType.{PduType}
use Rattle.header.specs.declared.flags.Direction.{Direction}
use Rattle.header.specs.declared.flags.TransmissionMode.{TransmissionMode}
use Rattle.header.specs.declared.flags.CrcFlag.{CrcFlag}
use Rattle.header.specs.declared.flags.LargeFileFlag.{LargeFileFlag}
use Rattle.header.specs.declared.flags.SegmentationControl.{SegmentationControl}
use Rattle.header.specs.declared.flags.SegmentMetadataFlag.{SegmentMetadataFlag}
use Rattle.header.specs.Flags.{pdu_type_if, direction_if, mode_if, crc_if, file_if, control_if, metadata_if}
use Rattle.header.specs.Judging.{width_tests}
use Rattle.header.specs.Reading.{is_set, version_in, entity_width_in, sequence_width_in, header_length_in, header_in, reading_header}

module _ (s : List ℕ) where
  pub short_4 : length s < 4 → told (1 ∷ length s ∷ 4 ∷ []) ≡ run reading_header s
  unfolding reading_header
  short_4 h = rw (told_is_short _ _, lt-ltb _ _ h)

  module _ (long : 4 ≤ length s) where
    pub bad_version : (v : ℕ) → v ≡ version_in (take 4 s) → (v ≡ 1 → ⊥) → told (2 ∷ v ∷ []) ≡ run reading_header s
    unfolding reading_header
    bad_version v p n = rw p (rw (told_is_refused 2 _ refl, le-ltb _ _ long, ne_eqb _ _ (rw p at n)))

    module _ (one : version_in (take 4 s) ≡ 1) (e q : ℕ) (pe : e ≡ entity_width_in (take 4 s)) (pq : q ≡ sequence_width_in (take 4 s)) where
      abbrev behind : Staged PduHeader
      behind = bytes (header_length_in (take 4 s)) >>= λ a. accept (header_in a)

      rest : run (tests (width_tests e q) >> behind) s ≡ run reading_header s
      unfolding reading_header
      rest = rw (le-ltb _ _ long, eq-eqb _ _ one, pe, pq)

      pub bad_widths : (ns : List ℕ) → told ns ≡ all_of (width_tests e q) → told ns ≡ run reading_header s
      bad_widths ns t = tests_refused ns (width_tests e q) behind tt s t ∙ rest

      module _ (good : Passed (width_tests e q)) (h : ℕ) (ph : h ≡ header_length_in (take 4 s)) where
        pub short_h : length s < h → told (1 ∷ length s ∷ h ∷ []) ≡ run reading_header s
        short_h t = rw (told_is_short _ _, ← rest, tests_passed (width_tests e q) behind s good, ← ph, lt-ltb _ _ t)

        pub whole : h ≤ length s → accepted (header_in (take h s)) ≡ run reading_header s
        whole t = rw (← rest, tests_passed (width_tests e q) behind s good, ← ph, le-ltb _ _ t)

-- two refusals as short: 4 bytes, and h
pub header_two : AtMost reading_header 2
unfolding reading_header
header_two = λ _ _. tt

-- the first h bytes hold the header
pub holds : (s : List ℕ) (h : ℕ) → h ≡ header_length_in (take 4 s) → h ≤ length s → header_length_in (take h s) ≤ length (take h s)
holds s h p l =
    let k : 3 < h = omega arith in
    let e : h ≡ header_length_in s = rw (get_or-take 4 s 3 0 (lit< tt)) at p in
    rw (get_or-take h s 3 0 k, length-take-le h s l) (le_of_eq (sym e))

-- a header is made of its parts
module _ (s : List ℕ) (long : header_length_in s ≤ length s) where
  number_is : (at w x : ℕ) → x ≡ be_at (take (at + w - at) (drop at s)) 0 w → w ≤ 8 → at + w ≤ length s → x ≡ number_at s at w
  number_is at w x p h k = p ∙ part_read s at w (at + w) refl h k

  pub header_is : (kind : PduType) (direction : Direction) (mode : TransmissionMode) (crc : CrcFlag) (file : LargeFileFlag) (control : SegmentationControl) (metadata : SegmentMetadataFlag)
      (d e q x y z : ℕ) (i : UnsignedByteField)
      → kind ≡ pdu_type_if (is_set (get_or s 0 0) 16)
      → direction ≡ direction_if (is_set (get_or s 0 0) 8)
      → mode ≡ mode_if (is_set (get_or s 0 0) 4)
      → crc ≡ crc_if (is_set (get_or s 0 0) 2)
      → file ≡ file_if (is_set (get_or s 0 0) 1)
      → control ≡ control_if (is_set (get_or s 3 0) 128)
      → metadata ≡ metadata_if (is_set (get_or s 3 0) 8)
      → e ≡ entity_width_in s
      → q ≡ sequence_width_in s
      → d ≡ be_at (take (1 + 2 - 1) (drop 1 s)) 0 2
      → x ≡ be_at (take (4 + e - 4) (drop 4 s)) 0 e
      → y ≡ be_at (take (4 + e + q - (4 + e)) (drop (4 + e) s)) 0 q
      → z ≡ be_at (take (4 + e + q + e - (4 + e + q)) (drop (4 + e + q) s)) 0 e
      → i ≡ record { width = q; value = y }
      → record { kind = kind; direction = direction; mode = mode; crc = crc; file = file; length = d; control = control; width = e; metadata = metadata; source = record { 0 = x }; sequence = record { 0 = i }; destination = record { 0 = z } } ≡ header_in s
  unfolding header_in
  header_is kind direction mode crc file control metadata d e q x y z i pk pd pm pc pf pg ps pe pq pl px py pz pi =
      let pl' : d ≡ number_at s 1 2 = number_is 1 2 d pl (omega arith) (omega arith) in
      let px' : x ≡ number_at s 4 e = number_is 4 e x px (omega arith) (omega arith) in
      let py' : y ≡ number_at s (4 + e) q = number_is (4 + e) q y py (omega arith) (omega arith) in
      let pz' : z ≡ number_at s (4 + e + q) e = number_is (4 + e + q) e z pz (omega arith) (omega arith) in
      rw (pi, pk, pd, pm, pc, pf, pg, ps, pl', px', py', pz', pe, pq)
