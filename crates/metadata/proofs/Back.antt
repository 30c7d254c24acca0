-- The data of a Metadata PDU that was written read back: field by field, names and options byte for byte.
-- Assumes nothing.
use Prim.Native.Nat.{ℕ, ◌+◌, ◌-◌, ◌*◌, ◌/◌, ◌%◌, ◌^◌, ◌≤◌, ◌<◌}
use mathlib.Core.Path.{◌≡◌, refl, sym, ap, ◌∙◌}
use mathlib.Core.Bool.{Bool, true, false, not}
use mathlib.Core.List.{List, [], ◌∷◌, ◌++◌, append_assoc}
use native.Mathlib.Omega.{arith}
use lib.Dec.{eqb}
use lib.ListN.{length, get_or, take, drop, length-append, length-drop}
use lib.Seq.{drop_at, take_all}
use Rattle.std.specs.Prelude.{Result, Ok}
use borrow.Author.Tests.{le-ltb}
use Rattle.fields.specs.BigEndian.{number_at}
use Rattle.fields.specs.Answer.{accepted}
use Rattle.fields.specs.Staged.{run}
use Rattle.fields.proofs.BigEndian.{number_back}
use Rattle.fields.proofs.Judging.{Passed, all_passed}
use Rattle.header.specs.declared.PduHeader.{PduHeader}
use Rattle.header.specs.declared.flags.LargeFileFlag.{LargeFileFlag}
use Rattle.header.specs.Flags.{crc_bit}
use Rattle.header.specs.Header.{header_length, data_end}
use Rattle.header.specs.Size.{size_width}
use Rattle.header.specs.Pdu.{directive_tests, pdu_over}
use Rattle.header.proofs.Sizes.{size_low}
use Rattle.header.proofs.Verifying.{pdu_sum, end_sum}
use Rattle.header.proofs.Codes.{known_range}
use Rattle.header.proofs.PdusBack.{reads_content, over_length, content_there}
use Rattle.tlv.specs.declared.Form.TheVariants.{Lv, Tlv}
use Rattle.tlv.specs.declared.Cut.{Cut}
use Rattle.tlv.specs.Form.{field_bytes}
use Rattle.tlv.specs.Reading.{stop_at, is_whole}
use Rattle.tlv.specs.Walking.{first_cut}
use Rattle.tlv.specs.Parts.{further_on}
use Rattle.tlv.specs.RoundTrip.{placed}
use Rattle.tlv.proofs.Reading.{within, field_inside}
use Rattle.tlv.proofs.Writing.{field_length}
use Rattle.tlv.proofs.Parts.{part_shows}
use Rattle.tlv.proofs.RoundTrip.{field_reads_back}
use Rattle.metadata.specs.declared.MetadataParams.{MetadataParams}
use Rattle.metadata.specs.Metadata.{names_at, is_type, closure_in, type_in, names_in, metadata_in, part_of}
use Rattle.metadata.specs.Reading.{option_cut, name_tests, read_tests, reading_metadata}
use Rattle.metadata.specs.Writing.{closure_bit, fixed_data, lent_data, metadata_data, filled, fixed_tests, own_tests}
use Rattle.metadata.specs.Demands.{Same}
use Rattle.metadata.proofs.Names.{is_all, stop_is}
use Rattle.metadata.proofs.Data.{fixed_good, fixed_passed, lent_passed, lent_good, length_small, fixed_size, length_is}
use Rattle.metadata.proofs.Shown.{part_in}

-- ---- a name

record NameBack (c name : List ℕ) (at : ℕ) : Type 0 where
  all : is_whole Lv c at ≡ true
  stop : stop_at Lv c at ≡ at + 1 + length name
  inside : stop_at Lv c at ≤ length c
  there : take (stop_at Lv c at - (at + 1)) (drop (at + 1) c) ≡ name

name_here : (pre name post : List ℕ) → length name ≤ 255 → NameBack (pre ++ (field_bytes Lv 0 name ++ post)) name (length pre)
name_here pre name post l =
    let A = pre ++ (field_bytes Lv 0 name ++ post) in
    let n = length pre in
    let F = placed Lv n (0, name) in
    let r = field_reads_back Lv pre post (0, name) (record { tag = omega arith; size = omega arith }) in
    let i = field_inside Lv A n F r.read in
    let s : stop_at Lv A n ≡ F.stop = stop_is A n F (sym r.read) in
    record {
      all = is_all A n F (sym r.read);
      stop = s;
      inside = omega (arith, s, i.inside);
      there = ap (λ (j : ℕ). take (j - (n + 1)) (drop (n + 1) A)) s ∙ within F A i.stops i.inside ∙ r.value;
    }

name_back : (pre name post c : List ℕ) (at : ℕ) → c ≡ pre ++ (field_bytes Lv 0 name ++ post) → length pre ≡ at → length name ≤ 255 → NameBack c name at
name_back pre name post c at e l s = rw (e, ← l) (name_here pre name post s)

-- ---- flag and type share a byte

type_in_byte : (b : Bool) (kind : ℕ) → kind < 16 → (closure_bit b * 64 + kind) % 16 ≡ kind
type_in_byte true kind l = omega arith
type_in_byte false kind l = omega arith

closure_in_byte : (b : Bool) (kind : ℕ) → kind < 16 → eqb ((closure_bit b * 64 + kind) / 64 % 2) 1 ≡ b
closure_in_byte true kind l = let n : (1 * 64 + kind) / 64 % 2 ≡ 1 = omega arith in rw n
closure_in_byte false kind l = let n : (0 * 64 + kind) / 64 % 2 ≡ 0 = omega arith in rw n

-- ---- the header that is handed back

module _ (p : MetadataParams) (source destination options : List ℕ) (own : Passed (own_tests p source destination options)) where
  abbrev c : List ℕ
  c = metadata_data p source destination options

  abbrev P : List ℕ
  P = fixed_data p

  abbrev X : List ℕ
  X = field_bytes Lv 0 source

  abbrev Y : List ℕ
  Y = field_bytes Lv 0 destination

  parts : c ≡ P ++ (X ++ (Y ++ options))
  unfolding metadata_data lent_data
  parts = refl

  code_is : get_or c 0 0 ≡ 7
  unfolding metadata_data fixed_data
  code_is = refl

  byte_is : get_or c 1 0 ≡ closure_bit p.closure * 64 + p.kind
  unfolding metadata_data fixed_data
  byte_is = refl

  kind_low : p.kind < 16
  kind_low = (fixed_good p (fixed_passed p source destination options own)).kind_low

  type_back : type_in c ≡ p.kind
  type_back = ap (λ (n : ℕ). n % 16) byte_is ∙ type_in_byte p.closure p.kind kind_low

  closure_back : closure_in c ≡ p.closure
  closure_back = ap (λ (n : ℕ). eqb (n / 64 % 2) 1) byte_is ∙ closure_in_byte p.closure p.kind kind_low

  size_back : number_at c 2 (size_width p.header.file) ≡ p.size
  unfolding metadata_data fixed_data
  size_back =
      let W = size_width p.header.file in
      let two : List ℕ = 7 ∷ (closure_bit p.closure * 64 + p.kind) ∷ [] in
      number_back two (lent_data source destination options) 2 W p.size refl (fixed_good p (fixed_passed p source destination options own)).size_small

  type_allowed : not (is_type p.kind) ≡ false
  unfolding fixed_tests
  type_allowed = (fixed_passed p source destination options own).0

  module _ (k : PduHeader) (pk : k ≡ filled p source destination options) where
    same_file : k.file ≡ p.header.file
    unfolding filled
    same_file = ap (λ (x : PduHeader). x.file) pk

    filled_length : length c + 2 * crc_bit k.crc ≡ k.length
    unfolding filled
    filled_length = rw pk (length_is p source destination options)

    filled_small : k.length < 2 ^ 16
    unfolding filled
    filled_small = rw pk (length_small p source destination options own)

    ends : header_length k + length c ≡ data_end k
    ends = omega (arith, filled_length, pdu_sum k, end_sum k)

    -- ---- names and options in the data

    n₀ : ℕ
    n₀ = names_at k.file

    first : NameBack c source n₀
    unfolding n₀
    first =
        name_back P source (Y ++ options) c n₀ parts (fixed_size p ∙ ap names_at (sym same_file))
        (lent_good source destination options (lent_passed p source destination options own)).source_small

    n₁ : ℕ
    n₁ = stop_at Lv c n₀

    before_second : length (P ++ X) ≡ n₁
    unfolding n₀ n₁
    before_second = length-append P X ∙ omega (arith, field_length Lv 0 source, first.stop, fixed_size p, ap names_at same_file)

    second : NameBack c destination n₁
    second =
        name_back (P ++ X) destination options c n₁ (parts ∙ sym (append_assoc P X (Y ++ options))) before_second
        (lent_good source destination options (lent_passed p source destination options own)).destination_small

    n₂ : ℕ
    n₂ = stop_at Lv c n₁

    before_options : length ((P ++ X) ++ Y) ≡ n₂
    unfolding n₂
    before_options = length-append (P ++ X) Y ∙ omega (arith, before_second, field_length Lv 0 destination, second.stop)

    options_back : drop n₂ c ≡ options
    options_back =
        ap (drop n₂) (parts ∙ sym (append_assoc P X (Y ++ options)) ∙ sym (append_assoc (P ++ X) Y options)) ∙ drop_at ((P ++ X) ++ Y) options n₂ before_options

    uncut : first_cut Tlv c n₂ ≡ Ok tt
    unfolding n₂
    uncut =
        (part_shows Tlv c n₂ second.inside).cut
        ∙ ap (λ (x : List ℕ). further_on n₂ (first_cut Tlv x 0)) options_back
        ∙ ap (further_on n₂) (lent_good source destination options (lent_passed p source destination options own)).uncut

    tests_pass : Passed (read_tests k c)
    unfolding read_tests name_tests n₀ n₁ n₂
    tests_pass =
        let l : header_length k + names_at k.file ≤ data_end k = omega (arith, ends, first.inside, first.stop) in
        let a = ap not first.all in
        let b = ap not second.all in (
          le-ltb _ _ l,
          (ap (λ (n : ℕ). not (is_type n)) type_back ∙ type_allowed, (a, (b, (ap (λ (x : Result (Unit {0}) Cut). (option_cut (header_length k) x).holds) uncut, tt)))),
        )

    -- ---- and in the bytes

    module _ (t : List ℕ) where
      abbrev s : List ℕ
      s = pdu_over k c ++ t

      content_is : take (length c) (drop (header_length k) s) ≡ c
      content_is = content_there k [] c t filled_length (length c) (header_length k) (omega arith) refl

      long : header_length k + length c ≤ length s
      long = omega (arith, length-append (pdu_over k c) t, over_length k c filled_length, pdu_sum k, filled_length)

      same : Same k p source destination options s (metadata_in k c)
      unfolding metadata_in names_in n₀ n₁ n₂
      same =
          let h = header_length k in
          let size : number_at c 2 (size_width k.file) ≡ p.size = ap (λ (f : LargeFileFlag). number_at c 2 (size_width f)) same_file ∙ size_back in
          let one = part_in s c h (length c) (n₀ + 1) n₁ content_is long (omega (arith, first.stop)) first.inside ∙ first.there in
          let two = part_in s c h (length c) (n₁ + 1) n₂ content_is long (omega (arith, second.stop)) second.inside ∙ second.there in
          let rest = part_in s c h (length c) n₂ (length c) content_is long second.inside (omega arith)
          ∙ take_all (length c - n₂) (drop n₂ c) (omega (arith, length-drop n₂ c))
          ∙ options_back in
          record {
            params = λ i. record { header = k; closure = closure_back i; kind = type_back i; size = size i };
            source_is = one;
            destination_is = two;
            options_are = ap (λ (n : ℕ). part_of (record { start = h + n₂; stop = n }) s) (sym ends) ∙ rest;
          }

      pub reads_back : Passed (directive_tests k) → (run reading_metadata s ≡ accepted (metadata_in k c)) × Same k p source destination options s (metadata_in k c)
      unfolding reading_metadata n₀
      reads_back good =
          let two : 2 ≤ length c = omega (arith, first.inside, first.stop, size_low k.file) in (
            reads_content k c t good filled_length two filled_small 7 (known_range 7 (omega arith) (omega arith)) code_is read_tests metadata_in
                ∙ all_passed (read_tests k c) (metadata_in k c) tests_pass,
            same,
          )
