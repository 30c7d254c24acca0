-- The data of an EOF: read at each exit, judged and stored.
-- Assumes nothing.
use Prim.Native.Nat.{ℕ, suc, ◌+◌, ◌-◌, ◌*◌, ◌^◌, ◌≤◌, ◌<◌}
use mathlib.Core.Path.{◌≡◌, refl, sym, ap, ap₂, ◌∙◌}
use mathlib.Core.List.{List, [], ◌∷◌, ◌++◌}
use native.Mathlib.Omega.{arith}
use lib.ListN.{length, take, drop, set, length-append, length-drop}
use lib.Seq.{sets, length-sets, take_all}
use Rattle.std.specs.Prelude.{Option}
use borrow.Author.Tests.{ltb-false, not-false}
use Rattle.fields.specs.BigEndian.{be_bytes, be_at, be_put}
use Rattle.fields.specs.Answer.{Answer, accepted, told, Test, first_of, all_of}
use Rattle.fields.specs.Staged.{run}
use Rattle.fields.proofs.BigEndian.{be_length, put_behind, sets_append}
use Rattle.fields.proofs.Parts.{part_read}
use Rattle.fields.proofs.Judging.{Passed, passed, passed_on, all_passed, judged_passed, refused_on, refused_same}
use Rattle.header.specs.declared.PduHeader.{PduHeader}
use Rattle.header.specs.declared.directive.DirectivePdu.{DirectivePdu}
use Rattle.header.specs.Flags.{crc_bit}
use Rattle.header.specs.Header.{header_length, data_end}
use Rattle.header.specs.Size.{size_width, size_too_large}
use Rattle.header.specs.Condition.{reserved_condition}
use Rattle.header.specs.Directive.{data_short, reading_own}
use Rattle.header.proofs.Sizes.{size_high, size_fits}
use Rattle.header.proofs.Conditions.{condition_small}
use Rattle.header.proofs.Directives.{OwnRead, refused_own, read_own}
use Rattle.eof.specs.declared.Eof.{Eof}
use Rattle.eof.specs.declared.fault.EntityIdTlv.{EntityIdTlv}
use Rattle.eof.specs.Fault.{not_a_fault, fault_of, locating, fault_bytes, fault_length, fault_tests}
use Rattle.eof.specs.Eof.{condition_in, after_size, eof_in}
use Rattle.eof.specs.Reading.{read_tests, reading_eof}
use Rattle.eof.specs.Writing.{eof_data, eof_size, eof_length, own_tests}
use Rattle.eof.proofs.Faults.{fault_size}

-- ---- reading: E is tested, then the condition code, then the bytes behind the file size

-- all bytes from a on
rest_is : (c : List ℕ) (a : ℕ) → take (length c - a) (drop a c) ≡ drop a c
rest_is c a = take_all (length c - a) (drop a c) (omega (arith, length-drop a c))

module _ (h : PduHeader) (c : List ℕ) (stop a w : ℕ) (pe : stop ≡ data_end h) (pa : a ≡ header_length h) (pw : w ≡ size_width h.file) where
  abbrev there : List Test
  there = data_short stop (a + (6 + w)) ∷ []

  abbrev condition : List Test
  condition = reserved_condition (condition_in c) ∷ []

  abbrev behind : List Test
  behind = not_a_fault (after_size h.file c) ∷ []

  abbrev answer : Answer Eof
  answer = first_of (read_tests h c) (eof_in h c)

  in_order_lem : first_of (there ++ (condition ++ behind)) (eof_in h c) ≡ answer
  unfolding read_tests
  in_order_lem = rw (pe, pa, pw)

  pub eof_short : (ns : List ℕ) → told ns ≡ all_of there → told ns ≡ answer
  eof_short ns e = refused_on ns there (condition ++ behind) tt (eof_in h c) e ∙ in_order_lem

  module _ (p : accepted tt ≡ all_of there) where
    reaches : Passed there
    reaches = judged_passed there p

    pub long_enough : header_length h + length c ≡ stop → 6 + w ≤ length c
    long_enough size = omega (arith, ltb-false stop (a + (6 + w)) reaches.0)

    condition_next : first_of (condition ++ behind) (eof_in h c) ≡ answer
    condition_next = sym (passed_on there (condition ++ behind) (eof_in h c) reaches) ∙ in_order_lem

    pub eof_reserved : (ns : List ℕ) → told ns ≡ all_of condition → told ns ≡ answer
    eof_reserved ns e = refused_on ns condition behind tt (eof_in h c) e ∙ condition_next

    module _ (q : accepted tt ≡ all_of condition) where
      fault_next : first_of behind (eof_in h c) ≡ answer
      fault_next = sym (passed_on condition behind (eof_in h c) (judged_passed condition q)) ∙ condition_next

      -- the bytes behind, as the code cuts them out
      abbrev Y : List ℕ
      Y = take (length c - (6 + w)) (drop (6 + w) c)

      located : locating Y ≡ first_of behind (fault_of (after_size h.file c))
      unfolding locating
      located = rw (rest_is c (6 + w), pw)

      pub eof_other : (ns : List ℕ) → told ns ≡ locating Y → told ns ≡ answer
      eof_other ns e = refused_same ns behind (fault_of (after_size h.file c)) (eof_in h c) (e ∙ located) ∙ fault_next

      pub eof_read : (x y : ℕ) (f : Option EntityIdTlv) → header_length h + length c ≡ stop → x ≡ be_at (take (6 - 2) (drop 2 c)) 0 4
          → y ≡ be_at (take (6 + w - 6) (drop 6 c)) 0 (size_width h.file) → accepted f ≡ locating Y
          → accepted (record { header = h; condition = condition_in c; file_checksum = x; size = y; fault = f }) ≡ answer
      unfolding eof_in
      eof_read x y f size px py e =
          let l : 6 + w ≤ length c = long_enough size in
          let g = passed behind f (fault_of (after_size h.file c)) (e ∙ located) in
          let qx = px ∙ part_read c 2 4 6 refl (omega arith) (omega arith) in
          let qy = py ∙ part_read c 6 (size_width h.file) (6 + w) (ap (λ (n : ℕ). 6 + n) pw) (size_high h.file) (omega arith) in
          ap accepted (λ i. record { header = h; condition = condition_in c; file_checksum = qx i; size = qy i; fault = g.1 i })
          ∙ sym (all_passed behind (eof_in h c) g.0)
          ∙ fault_next

pub refused_eof : (s ns : List ℕ) → told ns ≡ run (reading_own 4) s → told ns ≡ run reading_eof s
unfolding reading_eof
refused_eof s ns e = refused_own 4 read_tests eof_in s ns e

pub read_eof : (s : List ℕ) (d : DirectivePdu) (a : ℕ) → accepted d ≡ run (reading_own 4) s → a ≡ header_length d.header
    → OwnRead d.header s d.stop a × (first_of (read_tests d.header (take (d.stop - a) (drop a s))) (eof_in d.header (take (d.stop - a) (drop a s))) ≡ run reading_eof s)
unfolding reading_eof
read_eof s d a e p = read_own 4 read_tests eof_in s d a e p

-- ---- judging

module _ (e : Eof) where
  abbrev first : List Test
  first = reserved_condition e.condition ∷ []

  abbrev second : List Test
  second = size_too_large e.header.file e.size ∷ []

  pub bad_condition : (ns : List ℕ) → told ns ≡ all_of first → told ns ≡ all_of (own_tests e)
  unfolding own_tests
  bad_condition ns d = refused_on ns first (second ++ fault_tests e.fault) tt tt d

  module _ (p : accepted tt ≡ all_of first) where
    pub bad_size : (ns : List ℕ) → told ns ≡ all_of second → told ns ≡ all_of (own_tests e)
    unfolding own_tests
    bad_size ns d = refused_on ns second (fault_tests e.fault) tt tt d ∙ sym (passed_on first (second ++ fault_tests e.fault) tt (judged_passed first p))

    pub fault_decides : accepted tt ≡ all_of second → all_of (fault_tests e.fault) ≡ all_of (own_tests e)
    unfolding own_tests
    fault_decides q =
        sym (passed_on second (fault_tests e.fault) tt (judged_passed second q))
        ∙ sym (passed_on first (second ++ fault_tests e.fault) tt (judged_passed first p))

  pub no_length : (ns : List ℕ) → told ns ≡ all_of (own_tests e) → told ns ≡ first_of (own_tests e) (eof_length e)
  no_length ns d = refused_same ns (own_tests e) tt (eof_length e) d

  pub has_length : (w n b : ℕ) → accepted tt ≡ all_of (own_tests e) → w ≡ size_width e.header.file → n ≡ fault_length e.fault → b ≡ crc_bit e.header.crc
      → accepted (6 + w + n + 2 * b) ≡ first_of (own_tests e) (eof_length e)
  unfolding eof_length eof_size
  has_length w n b d pw pn pb = rw (pw, pn, pb) (sym (all_passed (own_tests e) (eof_length e) (judged_passed (own_tests e) d)))

-- ---- storing

-- what the own tests say
pub record Good (e : Eof) : Type 0 where
  pub condition_low : e.condition < 16
  pub size_fits : e.size < 256 ^ size_width e.header.file
  pub fault_passed : Passed (fault_tests e.fault)

pub good : (e : Eof) → Passed (own_tests e) → Good e
unfolding own_tests
good e p = record { condition_low = condition_small _ (not-false _ p.0); size_fits = size_fits _ _ (not-false _ p.1.0); fault_passed = p.1.1 }

pub size_of : (e : Eof) → length (eof_data e) ≡ eof_size e
unfolding eof_data eof_size
size_of e = simp (length-append, be_length, fault_size) (omega arith)

pub length_is : (e : Eof) → length (eof_data e) + 2 * crc_bit e.header.crc ≡ eof_length e
unfolding eof_length
length_is e = omega (arith, size_of e)

module _ (e : Eof) (at w : ℕ) (s b₃ b₄ : List ℕ) (room : at + eof_size e ≤ length s) (tests : Passed (own_tests e)) (pw : w ≡ size_width e.header.file) (small : e.file_checksum < 2 ^ 32)
    (e₃ : b₃ ≡ be_put (set (set s at 4) (at + 1) (e.condition * 16)) (at + 2) 4 e.file_checksum) (e₄ : b₄ ≡ be_put b₃ (at + 6) (size_width e.header.file) e.size) where
  abbrev x₂ : List ℕ
  x₂ = 4 ∷ e.condition * 16 ∷ []

  abbrev x₃ : List ℕ
  x₃ = x₂ ++ be_bytes 4 e.file_checksum

  abbrev x₄ : List ℕ
  x₄ = x₃ ++ be_bytes (size_width e.header.file) e.size

  numbers_stored : b₄ ≡ sets s at x₄
  unfolding eof_size
  numbers_stored =
      let W = size_width e.header.file in
      let n : at + 1 ≡ suc at = omega arith in
      let p₂ : set (set s at 4) (at + 1) (e.condition * 16) ≡ sets s at x₂ = rw n in
      let l₃ : at + length x₃ ≡ at + 6 = simp be_length in
      let p₃ : b₃ ≡ sets s at x₃ = put_behind s x₂ at (at + 2) 4 e.file_checksum refl (omega arith) (omega arith) small p₂ e₃ in
      put_behind s x₃ at (at + 6) W e.size l₃ (size_high e.header.file) (omega arith) (good e tests).size_fits p₃ e₄

  pub fault_goes : (at + 6 + w + fault_length e.fault ≤ length b₄) × Passed (fault_tests e.fault)
  unfolding eof_size
  fault_goes = (omega (arith, pw, ap length numbers_stored ∙ length-sets s at x₄), (good e tests).fault_passed)

  pub data_stored : (b₅ : List ℕ) → b₅ ≡ sets b₄ (at + 6 + w) (fault_bytes e.fault) → b₅ ≡ sets s at (eof_data e)
  unfolding eof_data
  data_stored b₅ q =
      let l : length x₄ ≡ 6 + size_width e.header.file = simp (length-append, be_length) (omega arith) in
      let n : at + length x₄ ≡ at + 6 + w = omega (arith, l, pw) in
      q ∙ ap₂ (λ (b : List ℕ) (i : ℕ). sets b i (fault_bytes e.fault)) numbers_stored (sym n) ∙ sym (sets_append x₄ (fault_bytes e.fault) s at)

-- ---- what the proofs of these functions cite

pub ruleset for_put_data = (good, fault_goes, data_stored)

pub ruleset for_judge_own = (bad_condition, bad_size, fault_decides)

pub ruleset for_eof_in = (eof_short, long_enough, eof_reserved, eof_other)
