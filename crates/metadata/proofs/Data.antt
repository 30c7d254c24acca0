-- The data of a Metadata PDU: read at each exit, judged and stored.
-- Assumes nothing.
use Prim.Native.Nat.{ℕ, suc, ◌+◌, ◌-◌, ◌*◌, ◌^◌, ◌≤◌, ◌<◌}
use mathlib.Core.Path.{◌≡◌, refl, sym, ap, ap₂, ◌∙◌}
use mathlib.Core.Bool.{Bool, false}
use mathlib.Core.List.{List, [], ◌∷◌, ◌++◌, append_assoc}
use native.Mathlib.Nat.{zero-add}
use native.Mathlib.Omega.{arith}
use lib.ListN.{length, take, drop, set, length-append}
use lib.Seq.{sets, length-sets}
use Rattle.std.specs.Prelude.{Result, Ok, Err}
use borrow.Author.Tests.{ltb-false, lt-ltb, le-ltb, not-false}
use Rattle.fields.specs.BigEndian.{be_at, be_put}
use Rattle.fields.specs.Answer.{Answer, accepted, refused, told, Test, first_of, all_of}
use Rattle.fields.specs.Staged.{run}
use Rattle.fields.proofs.BigEndian.{be_length, put_behind, sets_append}
use Rattle.fields.proofs.Parts.{part_read}
use Rattle.fields.proofs.Judging.{Passed, passed, passed_on, passed_first, passed_last, all_passed, judged_passed, refused_on, refused_same, told_is_refused}
use Rattle.header.specs.declared.PduHeader.{PduHeader}
use Rattle.header.specs.declared.directive.DirectivePdu.{DirectivePdu}
use Rattle.header.specs.Flags.{crc_bit}
use Rattle.header.specs.Header.{header_length, data_end}
use Rattle.header.specs.Size.{size_width, size_too_large}
use Rattle.header.specs.Directive.{data_short, reading_own}
use Rattle.header.proofs.Sizes.{size_high, size_fits}
use Rattle.header.proofs.Directives.{OwnRead, refused_own, read_own}
use Rattle.tlv.specs.declared.Form.TheVariants.{Lv, Tlv}
use Rattle.tlv.specs.declared.Cut.{Cut}
use Rattle.tlv.specs.Form.{field_bytes}
use Rattle.tlv.specs.Walking.{first_cut}
use Rattle.tlv.specs.Writing.{field_put, bytes_put}
use Rattle.tlv.proofs.Writing.{field_length, then_field, then_bytes}
use Rattle.metadata.specs.declared.MetadataParams.{MetadataParams}
use Rattle.metadata.specs.declared.Metadata.{Metadata}
use Rattle.metadata.specs.declared.read.Names.{Names}
use Rattle.metadata.specs.Metadata.{names_at, type_tests, closure_in, type_in, names_in, metadata_in}
use Rattle.metadata.specs.Reading.{option_cut, name_tests, read_tests, reading_metadata}
use Rattle.metadata.specs.Writing.{closure_bit, fixed_data, lent_data, metadata_data, metadata_length, fixed_tests, lent_tests, data_too_large, own_tests}
use Rattle.metadata.proofs.Types.{type_small}

-- ---- reading: E is tested, then the checksum type, then names and options

module _ (h : PduHeader) (c : List ℕ) (stop a w : ℕ) (pe : stop ≡ data_end h) (pa : a ≡ header_length h) (pw : w ≡ size_width h.file) where
  abbrev there : List Test
  there = data_short stop (a + (2 + w)) ∷ []

  abbrev kind : List Test
  kind = type_tests (type_in c)

  abbrev names : List Test
  names = name_tests a c (2 + w)

  abbrev answer : Answer Metadata
  answer = first_of (read_tests h c) (metadata_in h c)

  in_order_lem : first_of (there ++ (kind ++ names)) (metadata_in h c) ≡ answer
  unfolding read_tests
  in_order_lem = rw (pe, pa, pw)

  pub data_short_lem : (ns : List ℕ) → told ns ≡ all_of there → told ns ≡ answer
  data_short_lem ns e = refused_on ns there (kind ++ names) tt (metadata_in h c) e ∙ in_order_lem

  module _ (p : accepted tt ≡ all_of there) where
    reaches : Passed there
    reaches = judged_passed there p

    pub long_enough : header_length h + length c ≡ stop → 2 + w ≤ length c
    long_enough size = omega (arith, ltb-false stop (a + (2 + w)) reaches.0)

    kind_next : first_of (kind ++ names) (metadata_in h c) ≡ answer
    kind_next = sym (passed_on there (kind ++ names) (metadata_in h c) reaches) ∙ in_order_lem

    pub type_refused : (ns : List ℕ) → told ns ≡ all_of kind → told ns ≡ answer
    type_refused ns e = refused_on ns kind names tt (metadata_in h c) e ∙ kind_next

    module _ (q : accepted tt ≡ all_of kind) where
      names_next : first_of names (metadata_in h c) ≡ answer
      names_next = sym (passed_on kind names (metadata_in h c) (judged_passed kind q)) ∙ kind_next

      pub names_refused : (ns : List ℕ) → told ns ≡ first_of names (names_in a c (2 + w)) → told ns ≡ answer
      names_refused ns e = refused_same ns names (names_in a c (2 + w)) (metadata_in h c) e ∙ names_next

      pub metadata_read : (n : Names) (closure : Bool) (size : ℕ) → header_length h + length c ≡ stop
          → accepted n ≡ first_of names (names_in a c (2 + w)) → closure ≡ closure_in c
          → size ≡ be_at (take (2 + w - 2) (drop 2 c)) 0 (size_width h.file)
          → accepted (record { params = record { header = h; closure = closure; kind = type_in c; size = size }; source = n.source; destination = n.destination; options = record { start = n.options; stop = stop } }) ≡ answer
      unfolding metadata_in
      metadata_read n closure size long e pc ps =
          let g = passed names n (names_in a c (2 + w)) e in
          let l : 2 + w ≤ length c = long_enough long in
          let qn : n ≡ names_in (header_length h) c (names_at h.file) = g.1 ∙ ap₂ (λ (i j : ℕ). names_in i c (2 + j)) pa pw in
          let qs = ps ∙ part_read c 2 (size_width h.file) (2 + w) (ap (λ (i : ℕ). 2 + i) pw) (size_high h.file) (omega arith) in
          ap accepted
          (λ i. record { params = record { header = h; closure = pc i; kind = type_in c; size = qs i }; source = (qn i).source; destination = (qn i).destination; options = record { start = (qn i).options; stop = pe i } })
          ∙ sym (all_passed names (metadata_in h c) g.0)
          ∙ names_next

pub refused_metadata : (s ns : List ℕ) → told ns ≡ run (reading_own 7) s → told ns ≡ run reading_metadata s
unfolding reading_metadata
refused_metadata s ns e = refused_own 7 read_tests metadata_in s ns e

pub read_metadata : (s : List ℕ) (d : DirectivePdu) (a : ℕ) → accepted d ≡ run (reading_own 7) s → a ≡ header_length d.header
    → OwnRead d.header s d.stop a × (first_of (read_tests d.header (take (d.stop - a) (drop a s))) (metadata_in d.header (take (d.stop - a) (drop a s))) ≡ run reading_metadata s)
unfolding reading_metadata
read_metadata s d a e p = read_own 7 read_tests metadata_in s d a e p

-- ---- judging: what goes in as numbers

module _ (p : MetadataParams) where
  abbrev own_type : List Test
  own_type = type_tests p.kind

  abbrev own_size : List Test
  own_size = size_too_large p.header.file p.size ∷ []

  pub bad_type : (ns : List ℕ) → told ns ≡ all_of own_type → told ns ≡ all_of (fixed_tests p)
  unfolding fixed_tests
  bad_type ns e = refused_on ns own_type own_size tt tt e

  pub size_decides : accepted tt ≡ all_of own_type → all_of own_size ≡ all_of (fixed_tests p)
  unfolding fixed_tests
  size_decides e = sym (passed_on own_type own_size tt (judged_passed own_type e))

-- ---- judging: what is lent

module _ (source destination options : List ℕ) where
  abbrev lent : Answer (Unit {0})
  lent = all_of (lent_tests source destination options)

  pub long_source : 255 < length source → told (31 ∷ []) ≡ lent
  unfolding lent_tests
  long_source l = rw (told_is_refused 31 _ refl, lt-ltb _ _ l)

  module _ (s : length source ≤ 255) where
    pub long_destination : 255 < length destination → told (31 ∷ []) ≡ lent
    unfolding lent_tests
    long_destination l = rw (told_is_refused 31 _ refl, le-ltb _ _ s, lt-ltb _ _ l)

    module _ (d : length destination ≤ 255) where
      pub cut_option : (cut : Cut) → Err cut ≡ first_cut Tlv options 0 → told (25 ∷ cut.at ∷ []) ≡ lent
      unfolding lent_tests
      cut_option cut e = rw (told_is_refused 25 _ refl, le-ltb _ _ s, le-ltb _ _ d, ← e) (ap (λ (n : ℕ). refused (25 ∷ n ∷ [])) (sym (zero-add cut.at)))

      pub lent_passes : Ok tt ≡ first_cut Tlv options 0 → accepted tt ≡ lent
      unfolding lent_tests
      lent_passes e = rw (le-ltb _ _ s, le-ltb _ _ d, ← e)

-- what the tests of what is lent say
pub record Lent (source destination options : List ℕ) : Type 0 where
  pub source_small : length source ≤ 255
  pub destination_small : length destination ≤ 255
  pub uncut : first_cut Tlv options 0 ≡ Ok tt

pub lent_good : (source destination options : List ℕ) → Passed (lent_tests source destination options) → Lent source destination options
unfolding lent_tests
lent_good source destination options p =
    record { source_small = ltb-false _ _ p.0; destination_small = ltb-false _ _ p.1.0; uncut = go (first_cut Tlv options 0) p.1.1.0 }
  where
    go : (k : Result (Unit {0}) Cut) → (option_cut 0 k).holds ≡ false → k ≡ Ok tt
    go (Err cut) e = absurd (cc)
    go (Ok none) e = refl

-- ---- d, and that it fits

module _ (p : MetadataParams) (source destination options : List ℕ) where
  abbrev whole_list : List Test
  whole_list = own_tests p source destination options

  abbrev d : ℕ
  d = metadata_length p source destination options

  abbrev lent_list : List Test
  lent_list = lent_tests source destination options

  abbrev last_list : List Test
  last_list = data_too_large d ∷ []

  pub fixed_refused : (ns : List ℕ) → told ns ≡ all_of (fixed_tests p) → told ns ≡ first_of whole_list d
  unfolding own_tests
  fixed_refused ns e = refused_on ns (fixed_tests p) (lent_list ++ last_list) tt d e

  module _ (f : accepted tt ≡ all_of (fixed_tests p)) where
    lent_next : first_of (lent_list ++ last_list) d ≡ first_of whole_list d
    unfolding own_tests
    lent_next = sym (passed_on (fixed_tests p) (lent_list ++ last_list) d (judged_passed (fixed_tests p) f))

    pub lent_refused : (ns : List ℕ) → told ns ≡ all_of lent_list → told ns ≡ first_of whole_list d
    lent_refused ns e = refused_on ns lent_list last_list tt d e ∙ lent_next

    module _ (l : accepted tt ≡ all_of lent_list) where
      last_next : first_of last_list d ≡ first_of whole_list d
      last_next = sym (passed_on lent_list last_list d (judged_passed lent_list l)) ∙ lent_next

      -- the names are short
      pub names_short : length source + length destination ≤ 510
      names_short = let g = lent_good source destination options (judged_passed lent_list l) in omega (arith, g.source_small, g.destination_small)

      module _ (w b : ℕ) (pw : w ≡ size_width p.header.file) (pb : b ≡ crc_bit p.header.crc) where
        abbrev around : ℕ
        around = 2 + w + (1 + length source + 1 + length destination) + 2 * b

        d_is : around + length options ≡ d
        unfolding metadata_length
        d_is = rw (pw, pb) (omega arith)

        pub too_large_lem : 65535 - around < length options → around ≤ 65535 → told (32 ∷ []) ≡ first_of whole_list d
        too_large_lem k fits =
            let m : 65535 < d = omega (arith, d_is) in
            let e : told (32 ∷ []) ≡ first_of last_list d = rw (told_is_refused 32 _ refl, lt-ltb _ _ m) in
            e ∙ last_next

        pub has_length : length options ≤ 65535 - around → around ≤ 65535 → accepted (around + length options) ≡ first_of whole_list d
        has_length k fits =
            let m : d ≤ 65535 = omega (arith, d_is) in
            let e : accepted d ≡ first_of last_list d = rw (le-ltb _ _ m) in
            ap accepted d_is ∙ e ∙ last_next

-- ---- storing

-- what the tests of what goes in as numbers say
pub record Fixed (p : MetadataParams) : Type 0 where
  pub kind_low : p.kind < 16
  pub size_small : p.size < 256 ^ size_width p.header.file

pub fixed_good : (p : MetadataParams) → Passed (fixed_tests p) → Fixed p
unfolding fixed_tests
fixed_good p t = record { kind_low = type_small p.kind (not-false _ t.0); size_small = size_fits _ _ (not-false _ t.1.0) }

pub fixed_passed : (p : MetadataParams) (source destination options : List ℕ) → Passed (own_tests p source destination options) → Passed (fixed_tests p)
unfolding own_tests
fixed_passed p source destination options t = passed_first (fixed_tests p) _ t

pub lent_passed : (p : MetadataParams) (source destination options : List ℕ) → Passed (own_tests p source destination options)
    → Passed (lent_tests source destination options)
unfolding own_tests
lent_passed p source destination options t = passed_first (lent_tests source destination options) _ (passed_last (fixed_tests p) _ t)

pub length_small : (p : MetadataParams) (source destination options : List ℕ) → Passed (own_tests p source destination options)
    → metadata_length p source destination options < 2 ^ 16
unfolding own_tests
length_small p source destination options t =
    let d = metadata_length p source destination options in
    let l : d ≤ 65535 = ltb-false 65535 d (passed_last (lent_tests source destination options) (data_too_large d ∷ []) (passed_last (fixed_tests p) _ t)).0 in
    omega arith

pub fixed_size : (p : MetadataParams) → length (fixed_data p) ≡ names_at p.header.file
unfolding fixed_data
fixed_size p = simp be_length (omega arith)

pub lent_size : (source destination options : List ℕ)
    → length (lent_data source destination options) ≡ (1 + length source) + ((1 + length destination) + length options)
unfolding lent_data
lent_size source destination options = simp (length-append, field_length)

pub length_is : (p : MetadataParams) (source destination options : List ℕ)
    → length (metadata_data p source destination options) + 2 * crc_bit p.header.crc ≡ metadata_length p source destination options
unfolding metadata_data metadata_length
length_is p source destination options =
    omega (arith, length-append (fixed_data p) (lent_data source destination options), fixed_size p, lent_size source destination options)

-- the data through the file size
pub fixed_stored : (p : MetadataParams) (at byte : ℕ) (s b : List ℕ) → at + length (fixed_data p) ≤ length s → Passed (fixed_tests p)
    → byte ≡ closure_bit p.closure * 64 + p.kind
    → b ≡ be_put (set (set s at 7) (at + 1) byte) (at + 2) (size_width p.header.file) p.size → b ≡ sets s at (fixed_data p)
unfolding fixed_data
fixed_stored p at byte s b room t pb e =
    let n : at + 1 ≡ suc at = omega arith in
    let x : List ℕ = 7 ∷ (closure_bit p.closure * 64 + p.kind) ∷ [] in
    let q : set (set s at 7) (at + 1) byte ≡ sets s at x = rw (n, pb) in
    put_behind s x at (at + 2) (size_width p.header.file) p.size refl (size_high p.header.file) (omega (arith, fixed_size p))
    (fixed_good p t).size_small q e

-- names and options
pub lent_stored : (s b₁ b₂ b₃ source destination options : List ℕ) (at : ℕ) → Passed (lent_tests source destination options)
    → at + length (lent_data source destination options) ≤ length s
    → b₁ ≡ field_put Lv s at 0 source → b₂ ≡ field_put Lv b₁ (at + 1 + length source) 0 destination → b₃ ≡ bytes_put b₂ (at + 1 + length source + 1 + length destination) options
    → b₃ ≡ sets s at (lent_data source destination options)
unfolding lent_data
lent_stored s b₁ b₂ b₃ source destination options at t room e₁ e₂ e₃ =
    let g = lent_good source destination options t in
    let X = field_bytes Lv 0 source in
    let Y = field_bytes Lv 0 destination in
    let lX : length X ≡ 1 + length source = field_length Lv 0 source in
    let lY : length Y ≡ 1 + length destination = field_length Lv 0 destination in
    let all = lent_size source destination options in
    let p₁ : b₁ ≡ sets s at X = then_field Lv [] s source at at 0 (omega arith) (omega (arith, g.source_small)) (omega arith) refl e₁ in
    let p₂ : b₂ ≡ sets s at (X ++ Y) = then_field Lv X s destination at (at + 1 + length source) 0 (omega arith) (omega (arith, g.destination_small))
    (omega arith) p₁ e₂ in
    let p₃ : b₃ ≡ sets s at ((X ++ Y) ++ options) = then_bytes (X ++ Y) s options at (at + 1 + length source + 1 + length destination)
    (omega (arith, length-append X Y)) (omega arith) p₂ e₃ in
    p₃ ∙ ap (sets s at) (append_assoc X Y options)

-- both
module _ (p : MetadataParams) (source destination options s : List ℕ) (at w : ℕ) (room : at + length (metadata_data p source destination options) ≤ length s) (pw : w ≡ size_width p.header.file) where
  both_size : length (metadata_data p source destination options) ≡ length (fixed_data p) + length (lent_data source destination options)
  unfolding metadata_data
  both_size = length-append (fixed_data p) (lent_data source destination options)

  pub fixed_room : at + length (fixed_data p) ≤ length s
  fixed_room = omega (arith, both_size)

  pub lent_room : (b : List ℕ) → b ≡ sets s at (fixed_data p) → at + 2 + w + length (lent_data source destination options) ≤ length b
  lent_room b e = omega (arith, ap length e ∙ length-sets s at (fixed_data p), both_size, fixed_size p, pw)

  pub data_stored : (b b' : List ℕ) → b ≡ sets s at (fixed_data p) → b' ≡ sets b (at + 2 + w) (lent_data source destination options)
      → b' ≡ sets s at (metadata_data p source destination options)
  unfolding metadata_data
  data_stored b b' e e' =
      let n : at + length (fixed_data p) ≡ at + 2 + w = omega (arith, fixed_size p, pw) in
      e'
      ∙ ap₂ (λ (x : List ℕ) (i : ℕ). sets x i (lent_data source destination options)) e (sym n)
      ∙ sym (sets_append (fixed_data p) (lent_data source destination options) s at)

-- ---- what the proofs of these functions cite

pub ruleset for_data_length = (fixed_refused, lent_refused, names_short, too_large_lem, has_length)

pub ruleset for_judge = (long_source, long_destination, cut_option, lent_passes)

pub ruleset for_metadata_in = (data_short_lem, long_enough, type_refused, names_refused, metadata_read)
