-- Writing a directive PDU around its data: the judgement, the beginning of a write, its stores, and what an accepted one has, for every directive.
-- Assumes nothing.
use Prim.Native.Nat.{ℕ, ◌+◌, ◌*◌, ◌≤◌}
use mathlib.Core.Path.{◌≡◌, refl, sym, ap, ap₂, ◌∙◌}
use mathlib.Core.List.{List, [], ◌∷◌, ◌++◌}
use native.Mathlib.Nat.{zero-add}
use native.Mathlib.Omega.{arith}
use lib.ListN.{length, take, drop, length-append}
use lib.Seq.{sets, sets-eq, length-sets, take_at}
use borrow.Author.Tests.{ltb-false, le-ltb}
use Rattle.std.specs.Prelude.{if◌then◌else◌}
use Rattle.fields.specs.Answer.{Answer, accepted, short, refused, told, and_then, Test, first_of, leaves, all_of}
use Rattle.fields.proofs.BigEndian.{then_sets}
use Rattle.fields.proofs.Judging.{Passed, passed, passed_first, passed_last, passed_on, passed_after, all_passed, refused_on, refused_same, refused_then, accepted_then, told_either, told_on, told_leaves, accepted_leaves, sets_leaves, went, then_tests}
use Rattle.header.specs.declared.PduHeader.{PduHeader}
use Rattle.header.specs.declared.pdu.PduWritten.{PduWritten}
use Rattle.header.specs.declared.flags.PduType.TheVariants.{FileDirective}
use Rattle.header.specs.declared.flags.Direction.{Direction}
use Rattle.header.specs.declared.flags.LargeFileFlag.{LargeFileFlag}
use Rattle.header.specs.Flags.{crc_bit, pdu_type_if, pdu_type_laws}
use Rattle.header.specs.Header.{header_length, header_bytes, pdu_length, data_end, crc_length, with_direction, with_file_flag, with_length}
use Rattle.header.specs.Judging.{record_tests, judging, Sound}
use Rattle.header.specs.Writing.{no_room}
use Rattle.header.specs.Verifying.{checksum_bytes, crc_added}
use Rattle.header.specs.Directive.{not_a_directive}
use Rattle.header.specs.Pdu.{directive_tests, judging_directive, pdu_over, handed_back, writing_pdu, pdu_memory, with_data, beginning, begun_memory, sealed_memory}
use Rattle.header.proofs.Judging.{sound, with_tests, refused_first}
use Rattle.header.proofs.Writing.{header_length_lem}
use Rattle.header.proofs.Verifying.{pdu_sum, end_sum, added_sets, checksum_length}

-- ---- judging a record

pub refused_record : (h : PduHeader) (ns : List ℕ) → told ns ≡ judging h → told ns ≡ judging_directive h
unfolding judging_directive directive_tests
refused_record h ns e = refused_first h (not_a_directive h ∷ []) tt ns e

-- behind a record that passed its type decides
pub type_decides : (h : PduHeader) → Passed (record_tests h) → all_of (not_a_directive h ∷ []) ≡ judging_directive h
unfolding judging_directive directive_tests
type_decides h good = sym (passed_on (record_tests h) (not_a_directive h ∷ []) tt good)

-- what the judgement refuses, every judgement that begins with it refuses alike, and what it accepts passed every test
pub refused_directive : {A : Type 0} (h : PduHeader) (us : List Test) (a : A) (ns : List ℕ) → told ns ≡ judging_directive h
    → told ns ≡ first_of (directive_tests h ++ us) a
unfolding judging_directive
refused_directive h us a ns e = refused_on ns (directive_tests h) us tt a e

pub passed_directive : (h : PduHeader) → accepted tt ≡ judging_directive h → Passed (directive_tests h)
unfolding judging_directive
passed_directive h e = (passed (directive_tests h) tt tt e).0

-- so it is a record that passed, of PDU type 0
pub directive_good : (h : PduHeader) → Passed (directive_tests h) → Passed (record_tests h)
unfolding directive_tests
directive_good h p = passed_first (record_tests h) (not_a_directive h ∷ []) p

pub directive_kind : (h : PduHeader) → Passed (directive_tests h) → h.kind ≡ FileDirective
unfolding directive_tests
directive_kind h p = sym (pdu_type_laws.back h.kind) ∙ ap pdu_type_if (passed_last (record_tests h) (not_a_directive h ∷ []) p).0

-- direction, file flag and length are not judged
pub with_directive : (d : Direction) (f : LargeFileFlag) (l : ℕ) (h : PduHeader)
    → directive_tests (with_length l (with_file_flag f (with_direction d h))) ≡ directive_tests h
unfolding directive_tests
with_directive d f l h = ap (λ (ts : List Test). ts ++ (not_a_directive h ∷ [])) (with_tests d f l h)

-- ---- the exits of the judgement

-- what goes on behind the record and the own tests
abbrev into : PduHeader → ℕ → Answer ℕ
into h room = first_of (no_room room (pdu_length h) ∷ []) (pdu_length h)

module _ (h : PduHeader) (room : ℕ) where
  pub record_refused : (own : Answer ℕ) (ns : List ℕ) → told ns ≡ judging_directive h → told ns ≡ beginning h own room
  unfolding beginning
  record_refused own ns e = refused_then (judging_directive h) (λ _. and_then own (λ _. into h room)) ns e

  module _ (e : accepted tt ≡ judging_directive h) where
    behind_record : (own : Answer ℕ) → and_then own (λ _. into h room) ≡ beginning h own room
    unfolding beginning
    behind_record own = accepted_then (judging_directive h) (λ _. and_then own (λ _. into h room)) tt e

    pub own_refused : (ms : List ℕ) → told ms ≡ beginning h (told ms) room
    own_refused ms = sym (told_on ms (λ _. into h room)) ∙ behind_record (told ms)

    module _ (d p : ℕ) (q : p ≡ pdu_length h) where
      pub no_room_for : (ns : List ℕ) → told ns ≡ all_of (no_room room p ∷ []) → told ns ≡ beginning h (accepted d) room
      no_room_for ns f =
          refused_same ns (no_room room p ∷ []) tt (pdu_length h) f ∙ ap (λ (n : ℕ). first_of (no_room room n ∷ []) (pdu_length h)) q ∙ behind_record (accepted d)

      pub room_for : accepted tt ≡ all_of (no_room room p ∷ []) → accepted p ≡ beginning h (accepted d) room
      room_for f =
          ap accepted q
          ∙ sym (all_passed (no_room room (pdu_length h) ∷ []) (pdu_length h) (rw q at (passed (no_room room p ∷ []) tt tt f).0))
          ∙ behind_record (accepted d)

-- the header keeps its length where the own tests refused
pub refused_data : (ns : List ℕ) (h : PduHeader) → h ≡ with_data (told ns) h
unfolding with_data
refused_data ns h = sym (told_either (λ (o : Answer ℕ). with_data o h) h ns (λ l n. refl) (λ ms. refl))

-- ---- what an accepted beginning has

pub record Begun (h : PduHeader) (own : Answer ℕ) (room p : ℕ) : Type 0 where
  pub d : ℕ
  pub own_is : accepted d ≡ own
  pub length_is : p ≡ pdu_length h
  pub good : Passed (directive_tests h)
  pub room_is : pdu_length h ≤ room

pub begun : (h : PduHeader) (own : Answer ℕ) (room p : ℕ) → accepted p ≡ beginning h own room → Begun h own room p
unfolding beginning
begun h own room p e =
    let m = went (judging_directive h) (λ _. and_then own (λ _. into h room)) p e in
    let n = went own (λ _. into h room) p m.second in
    let q = passed (no_room room (pdu_length h) ∷ []) p (pdu_length h) n.second in
    record { d = n.mid; own_is = n.first; length_is = q.1; good = passed_directive h m.first; room_is = ltb-false _ _ q.0.0 }

-- so the header can be stored
pub storable : (h : PduHeader) (own : Answer ℕ) (room p : ℕ) → accepted p ≡ beginning h own room → Sound h × (header_length h ≤ room)
storable h own room p e =
    let b = begun h own room p e in
    (sound h (directive_good h b.good), omega (arith, pdu_sum h, b.room_is))

module _ (h : PduHeader) (own : Answer ℕ) (s : List ℕ) where
  pub nothing_begun : (ns : List ℕ) → told ns ≡ beginning h own (length s) → (told ns ≡ beginning h own (length s)) × (s ≡ begun_memory h own s)
  unfolding begun_memory
  nothing_begun ns e = (e, told_leaves ns (beginning h own (length s)) (λ _. header_bytes h) s e)

  pub header_begun : (b : List ℕ) (p : ℕ) → accepted p ≡ beginning h own (length s) → b ≡ header_bytes h ++ drop (header_length h) s
      → (accepted p ≡ beginning h own (length s)) × (b ≡ begun_memory h own s)
  unfolding begun_memory
  header_begun b p e q =
      (e, q ∙ ap (λ (n : ℕ). header_bytes h ++ drop n s) (sym (header_length_lem h)) ∙ accepted_leaves (beginning h own (length s)) (λ _. header_bytes h) s p e)

pub sealed_is : (h : PduHeader) (n : ℕ) (s b : List ℕ) → n ≡ data_end h → b ≡ crc_added h.crc n s → b ≡ sealed_memory h s
unfolding sealed_memory
sealed_is h n s b p e = e ∙ ap (λ (k : ℕ). crc_added h.crc k s) p

-- ---- for the writers above

-- header and data stand in front, the checksum goes behind them: that is the PDU, and the rest is as it was
pub sealed : (k : PduHeader) (content s b₁ b₂ : List ℕ) → length content + 2 * crc_bit k.crc ≡ k.length → pdu_length k ≤ length s
    → b₁ ≡ sets s 0 (header_bytes k ++ content) → b₂ ≡ sealed_memory k b₁ → b₂ ≡ pdu_over k content ++ drop (length (pdu_over k content)) s
unfolding pdu_over sealed_memory
sealed k content s b₁ b₂ size room e₁ e₂ =
    let n = data_end k in
    let X = header_bytes k ++ content in
    let C = checksum_bytes k.crc X in
    let ends : n + 2 * crc_bit k.crc ≡ pdu_length k = end_sum k in
    let lX : length X ≡ n = length-append (header_bytes k) content ∙ omega (arith, header_length_lem k, pdu_sum k) in
    let lC : length C ≡ 2 * crc_bit k.crc = checksum_length k.crc X in
    let l₁ : length b₁ ≡ length s = ap length e₁ ∙ length-sets s 0 X in
    let t₁ : take n b₁ ≡ X = ap (take n) (e₁ ∙ sets-eq X s 0 (omega arith)) ∙ take_at X (drop (0 + length X) s) n lX in
    let p : b₂ ≡ sets s 0 (X ++ C) = then_sets X C s n lX e₁
    (e₂ ∙ added_sets k.crc n b₁ (omega arith) ∙ ap (λ (x : List ℕ). sets b₁ n (checksum_bytes k.crc x)) t₁) in
    let lXC : length (X ++ C) ≤ length s = omega (arith, length-append X C) in
    p ∙ sets-eq (X ++ C) s 0 (omega arith) ∙ ap (λ (j : ℕ). (X ++ C) ++ drop j s) (zero-add (length (X ++ C)))

-- what an accepted write has
pub record Written (h : PduHeader) (ts : List Test) (room : ℕ) (w : PduWritten) : Type 0 where
  pub handed_back_lem : w ≡ handed_back h
  pub good : Passed (directive_tests h)
  pub own_passed : Passed ts
  pub room_is : pdu_length h ≤ room

pub written_has : (h : PduHeader) (ts : List Test) (room : ℕ) (w : PduWritten) → writing_pdu h ts room ≡ accepted w → Written h ts room w
unfolding writing_pdu
written_has h ts room w e =
    let last = no_room room (pdu_length h) ∷ [] in
    let p = passed (directive_tests h ++ (ts ++ last)) w (handed_back h) (sym e) in
    let q = passed_last (directive_tests h) (ts ++ last) p.0 in
    record { handed_back_lem = p.1; good = passed_first (directive_tests h) (ts ++ last) p.0; own_passed = passed_first ts last q; room_is = ltb-false _ _ (passed_last ts last q).0 }

-- and what has that is accepted
pub passes : (h : PduHeader) (ts : List Test) (room : ℕ) → Passed (directive_tests h) → Passed ts → pdu_length h ≤ room
    → accepted (handed_back h) ≡ writing_pdu h ts room
unfolding writing_pdu
passes h ts room good own l =
    let last = no_room room (pdu_length h) ∷ [] in
    passed_after ts last own (handed_back h) (le-ltb _ _ l, tt) ∙ sym (passed_on (directive_tests h) (ts ++ last) (handed_back h) good)

-- the buffer that it leaves begins with the PDU
pub memory_has : (h : PduHeader) (ts : List Test) (content s : List ℕ) (w : PduWritten) → writing_pdu h ts (length s) ≡ accepted w
    → pdu_memory h ts content s ≡ pdu_over w.header content ++ drop (length (pdu_over w.header content)) s
unfolding pdu_memory
memory_has h ts content s w e = ap (λ (x : Answer PduWritten). leaves x (λ y. pdu_over y.header content) s) e

-- own tests that decide alike, whatever follows them, write alike
pub tests_alike : (h : PduHeader) (ts us : List Test) → ((vs : List Test) → first_of (ts ++ vs) (handed_back h) ≡ first_of (us ++ vs) (handed_back h))
    → (room : ℕ) → writing_pdu h ts room ≡ writing_pdu h us room
unfolding writing_pdu
tests_alike h ts us alike room = go (directive_tests h)
  where
    last : List Test
    last = no_room room (pdu_length h) ∷ []

    go : (vs : List Test) → first_of (vs ++ (ts ++ last)) (handed_back h) ≡ first_of (vs ++ (us ++ last)) (handed_back h)
    go [] = alike last
    go (v ∷ vs) = ap (λ (o : Answer PduWritten). if v.holds then refused v.says else o) (go vs)

pub memory_alike : (h : PduHeader) (ts us : List Test) → ((vs : List Test) → first_of (ts ++ vs) (handed_back h) ≡ first_of (us ++ vs) (handed_back h))
    → (content s : List ℕ) → pdu_memory h ts content s ≡ pdu_memory h us content s
unfolding pdu_memory
memory_alike h ts us alike content s =
    ap (λ (o : Answer PduWritten). leaves o (λ y. pdu_over y.header content) s) (tests_alike h ts us alike (length s))

-- ---- the needs of a writer: j is its header as code has it and h what that is, o what its own tests said, k the header that it begins with

-- the length is not judged
with_any : (d : ℕ) (h : PduHeader) → directive_tests (with_length d h) ≡ directive_tests h
unfolding directive_tests record_tests
with_any d h = refl

-- where the own tests refused no length is looked at
begun_with : (o : Answer ℕ) (ts : List Test) (d : ℕ) → o ≡ first_of ts d → (h : PduHeader) (room : ℕ)
    → beginning (with_data o h) o room ≡ beginning (with_length d h) o room
unfolding with_data beginning judging_directive
begun_with (accepted x) ts d own h room = ap (λ (y : ℕ). beginning (with_length y h) (accepted x) room) (passed ts x d own).1
begun_with (short l n) ts d own h room = ap (λ (us : List Test). and_then (all_of us) (λ _. short l n)) (sym (with_any d h))
begun_with (refused ns) ts d own h room = ap (λ (us : List Test). and_then (all_of us) (λ _. refused ns)) (sym (with_any d h))

-- the beginning has the tests of the whole write, in document 01's order
begins : (h : PduHeader) (ts : List Test) (d room : ℕ)
    → beginning h (first_of ts d) room ≡ first_of (directive_tests h ++ (ts ++ (no_room room (pdu_length h) ∷ []))) (pdu_length h)
unfolding beginning judging_directive
begins h ts d room =
    let last = no_room room (pdu_length h) ∷ [] in
    then_tests (directive_tests h) (ts ++ last) tt (pdu_length h) (λ _. and_then (first_of ts d) (λ _. into h room))
    (then_tests ts last d (pdu_length h) (λ _. into h room) refl)

module _ (j h : PduHeader) (pj : j ≡ h) (ts : List Test) (d : ℕ) (o : Answer ℕ) (own : o ≡ first_of ts d) (k : PduHeader) (pk : k ≡ with_data o j) where
  abbrev K : PduHeader
  K = with_length d h

  pub judged_refused : (room : ℕ) (ns : List ℕ) → told ns ≡ beginning k o room → told ns ≡ writing_pdu K ts room
  unfolding writing_pdu
  judged_refused room ns e =
      let from : beginning k o room ≡ beginning K (first_of ts d) room =
      ap (λ (x : PduHeader). beginning x o room) (pk ∙ ap (with_data o) pj) ∙ begun_with o ts d own h room ∙ ap (λ (x : Answer ℕ). beginning K x room) own in
      refused_same ns (directive_tests K ++ (ts ++ (no_room room (pdu_length K) ∷ []))) (pdu_length K) (handed_back K) (e ∙ from ∙ begins K ts d room)

  module _ (room p : ℕ) (e : accepted p ≡ beginning k o room) where
    stands : Begun k o room p
    stands = begun k o room p e

    own_went : Passed ts × (stands.d ≡ d)
    own_went = passed ts stands.d d (stands.own_is ∙ own)

    pub begun_passed : Passed ts
    begun_passed = own_went.0

    pub begun_header : k ≡ K
    unfolding with_data
    begun_header = pk ∙ ap₂ with_data (sym stands.own_is ∙ ap accepted own_went.1) pj

    pub begun_room : pdu_length k ≤ room
    begun_room = stands.room_is

    pub judged_passed : accepted (record { header = k; length = p }) ≡ writing_pdu K ts room
    judged_passed =
        ap (λ (n : ℕ). accepted (record { header = k; length = n })) stands.length_is
        ∙ passes k ts room stands.good begun_passed begun_room
        ∙ ap (λ (x : PduHeader). writing_pdu x ts room) begun_header

  module _ (s : List ℕ) where
    -- a refused write changes no byte
    pub write_refused : (content b ns : List ℕ) → told ns ≡ beginning k o (length s) → b ≡ begun_memory k o s
        → (told ns ≡ writing_pdu K ts (length s)) × (b ≡ pdu_memory K ts content s)
    unfolding pdu_memory
    write_refused content b ns e q =
        let r = judged_refused (length s) ns e in
        (r, q ∙ sym (nothing_begun k o s ns e).1 ∙ told_leaves ns (writing_pdu K ts (length s)) (λ w. pdu_over w.header content) s r)

    module _ (p : ℕ) (b : List ℕ) (e : accepted p ≡ beginning k o (length s)) (q : b ≡ begun_memory k o s) where
      pub begun_sets : b ≡ sets s 0 (header_bytes k)
      unfolding begun_memory
      begun_sets =
          let l : length (header_bytes k) ≤ length s = omega (arith, header_length_lem k, begun_room (length s) p e, pdu_sum k) in
          q ∙ sym (sets_leaves (beginning k o (length s)) (λ _. header_bytes k) s p e l)

      module _ (content : List ℕ) (size : length content + crc_length h.crc ≡ d) (a : ℕ) (pa : a ≡ header_length k) where
        filled_size : length content + crc_length k.crc ≡ k.length
        filled_size = rw (begun_header (length s) p e) size

        pub data_goes : a + length content ≤ length b
        data_goes = omega (arith, ap length begun_sets ∙ length-sets s 0 (header_bytes k), begun_room (length s) p e, pdu_sum k, filled_size)

        -- header, data and checksum, one behind the other
        pub write_done : (b₁ b₂ : List ℕ) → b₁ ≡ sets b a content → b₂ ≡ sealed_memory k b₁
            → (accepted (record { header = k; length = p }) ≡ writing_pdu K ts (length s)) × (b₂ ≡ pdu_memory K ts content s)
        unfolding pdu_memory
        write_done b₁ b₂ e₁ e₂ = (
          judged_passed (length s) p e,
          sealed k content s b₁ b₂ filled_size (begun_room (length s) p e) (then_sets (header_bytes k) content s a (header_length_lem k ∙ sym pa) begun_sets e₁) e₂
              ∙ ap (λ (x : Answer PduWritten). leaves x (λ y. pdu_over y.header content) s) (judged_passed (length s) p e),
        )
