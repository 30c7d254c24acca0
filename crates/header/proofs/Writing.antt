-- Writing a header: what the writer's calls leave in the buffer, and its answer at each exit.
-- Assumes nothing.
use Prim.Native.Nat.{ℕ, ◌+◌, ◌*◌, ◌^◌, ◌≤◌, ◌<◌}
use mathlib.Core.Path.{◌≡◌, refl, sym, ap, ◌∙◌}
use mathlib.Core.List.{List, [], ◌∷◌, ◌++◌}
use native.Mathlib.Omega.{arith}
use lib.ListN.{length, drop, length-append}
use borrow.Author.Tests.{lt-ltb, le-ltb, ltb-false}
use Rattle.fields.specs.BigEndian.{be_bytes, be_put}
use Rattle.fields.specs.Answer.{Answer, accepted, told, first_of, leaves, all_of}
use Rattle.fields.proofs.BigEndian.{be_length, then_put, then_length}
use Rattle.fields.proofs.Judging.{Passed, passed, passed_whole, passed_on, all_passed, refused_on, told_leaves, told_is_refused}
use Rattle.header.specs.declared.PduHeader.{PduHeader}
use Rattle.header.specs.declared.flags.Direction.{Direction}
use Rattle.header.specs.declared.flags.LargeFileFlag.{LargeFileFlag}
use Rattle.header.specs.Header.{with_direction, with_file_flag, with_length, entity_width, sequence_width, header_length, first_byte, fourth_byte, header_bytes}
use Rattle.header.specs.Judging.{record_tests, judging, Sound}
use Rattle.header.specs.Writing.{no_room, writing_header, header_memory}

pub header_length_lem : (h : PduHeader) → length (header_bytes h) ≡ header_length h
unfolding header_bytes header_length
header_length_lem h = simp (length-append, be_length) (omega arith)

-- a number stored with the width that was found is stored with the one that was asked for
pub put_by_width : (s b : List ℕ) (at w n v : ℕ) → w ≡ n → b ≡ be_put s at n v → b ≡ be_put s at w v
put_by_width s b at w n v p e = e ∙ ap (λ (k : ℕ). be_put s at k v) (sym p)

-- the six fields, one behind the other
pub fields_put : (h : PduHeader) (s b₁ b₂ b₃ b₄ b₅ b₆ : List ℕ) (f g : ℕ) → Sound h → header_length h ≤ length s → h.length < 2 ^ 16
    → f < 256 → g < 256 → f ≡ first_byte h → g ≡ fourth_byte h
    → b₁ ≡ be_put s 0 1 f
    → b₂ ≡ be_put b₁ 1 2 h.length
    → b₃ ≡ be_put b₂ 3 1 g
    → b₄ ≡ be_put b₃ 4 (entity_width h) h.source.0
    → b₅ ≡ be_put b₄ (4 + entity_width h) (sequence_width h) h.sequence.0.value
    → b₆ ≡ be_put b₅ (4 + entity_width h + sequence_width h) (entity_width h) h.destination.0
    → b₆ ≡ header_bytes h ++ drop (header_length h) s
unfolding header_bytes header_length
fields_put h s b₁ b₂ b₃ b₄ b₅ b₆ f g k room small lf lg ef eg e₁ e₂ e₃ e₄ e₅ e₆ =
    let e = entity_width h in
    let q = sequence_width h in
    let a₁ = be_bytes 1 f in
    let a₂ = a₁ ++ be_bytes 2 h.length in
    let a₃ = a₂ ++ be_bytes 1 g in
    let a₄ = a₃ ++ be_bytes e h.source.0 in
    let a₅ = a₄ ++ be_bytes q h.sequence.0.value in
    let a₆ = a₅ ++ be_bytes e h.destination.0 in
    let l₁ = be_length 1 f in
    let l₂ = then_length a₁ 1 2 h.length l₁ in
    let l₃ = then_length a₂ 3 1 g l₂ in
    let l₄ = then_length a₃ 4 e h.source.0 l₃ in
    let l₅ = then_length a₄ (4 + e) q h.sequence.0.value l₄ in
    let p₁ = then_put [] s 0 1 f refl (omega arith) (omega arith) lf refl e₁ in
    let p₂ = then_put a₁ s 1 2 h.length l₁ (omega arith) (omega arith) small p₁ e₂ in
    let p₃ = then_put a₂ s 3 1 g l₂ (omega arith) (omega arith) lg p₂ e₃ in
    let p₄ = then_put a₃ s 4 e h.source.0 l₃ k.entity_high (omega arith) k.source_fits p₃ e₄ in
    let p₅ = then_put a₄ s (4 + e) q h.sequence.0.value l₄ k.sequence_high (omega arith) k.sequence_fits p₄ e₅ in
    let p₆ = then_put a₅ s (4 + e + q) e h.destination.0 l₅ k.entity_high (omega arith) k.destination_fits p₅ e₆ in
    let n : 4 + e + q + e ≡ 4 + 2 * e + q = omega arith in
    p₆ ∙ ap (λ (j : ℕ). a₆ ++ drop j s) n ∙ rw (ef, eg)

-- a refused write: the answer, and no byte changed
pub refused_write : (h : PduHeader) (s ns : List ℕ) → told ns ≡ writing_header h (length s) → (told ns ≡ writing_header h (length s)) × (s ≡ header_memory h s)
unfolding header_memory
refused_write h s ns e = (e, told_leaves ns (writing_header h (length s)) (λ _. header_bytes h) s e)

-- what the judgement refuses the writer refuses
pub refused_record : (h : PduHeader) (room : ℕ) (ns : List ℕ) → told ns ≡ judging h → told ns ≡ writing_header h room
unfolding judging writing_header
refused_record h room ns e = refused_on ns (record_tests h) (no_room room (header_length h) ∷ []) h (header_length h) e

module _ (h : PduHeader) (good : Passed (record_tests h)) (room : ℕ) where
  rest : writing_header h room ≡ first_of (no_room room (header_length h) ∷ []) (header_length h)
  unfolding writing_header
  rest = passed_on (record_tests h) (no_room room (header_length h) ∷ []) (header_length h) good

  pub short_of_h : (n : ℕ) (ns : List ℕ) → n ≡ header_length h → told ns ≡ all_of (no_room room n ∷ []) → told ns ≡ writing_header h room
  short_of_h n ns p e = refused_on ns (no_room room n ∷ []) [] tt (header_length h) e ∙ ap (λ (m : ℕ). first_of (no_room room m ∷ []) (header_length h)) p ∙ sym rest

  pub enough : (n : ℕ) → n ≡ header_length h → Passed (no_room room n ∷ []) → accepted n ≡ writing_header h room
  enough n p e = ap accepted p ∙ sym (rest ∙ all_passed (no_room room (header_length h) ∷ []) (header_length h) (rw p at e))

-- ---- the room

pub no_room_lem : (room needed : ℕ) → room < needed → told (11 ∷ room ∷ needed ∷ []) ≡ all_of (no_room room needed ∷ [])
no_room_lem room needed l = rw (told_is_refused 11 _ refl, lt-ltb _ _ l)

pub has_room : (room needed : ℕ) → needed ≤ room → accepted tt ≡ all_of (no_room room needed ∷ [])
has_room room needed l = rw (le-ltb _ _ l)

-- an accepted write: the record passed every test, and there is room
pub written_passed : (h : PduHeader) (room n : ℕ) → accepted n ≡ writing_header h room → Passed (record_tests h)
unfolding writing_header
written_passed h room n e = passed_whole (record_tests h) (no_room room (header_length h) ∷ []) n (header_length h) e

pub written_room : (h : PduHeader) (room n : ℕ) → accepted n ≡ writing_header h room → header_length h ≤ room
written_room h room n e =
    let p = passed (no_room room (header_length h) ∷ []) n (header_length h) (e ∙ rest h (written_passed h room n e) room) in
    ltb-false _ _ p.0.0

-- and the buffer then has the header's bytes in front, the rest as it was, whatever else the writer's answer depends on
pub in_front_lem : (h : PduHeader) (s b : List ℕ) (n : ℕ) (o : Answer ℕ) → accepted n ≡ o → b ≡ header_bytes h ++ drop (header_length h) s
    → b ≡ leaves o (λ _. header_bytes h) s
in_front_lem h s b n o e q = q ∙ ap (λ (k : ℕ). header_bytes h ++ drop k s) (sym (header_length_lem h)) ∙ ap (λ (x : Answer ℕ). leaves x (λ _. header_bytes h) s) e

pub accepted_write : (h : PduHeader) (s b : List ℕ) (n : ℕ) → accepted n ≡ writing_header h (length s) → b ≡ header_bytes h ++ drop (header_length h) s
    → (accepted n ≡ writing_header h (length s)) × (b ≡ header_memory h s)
unfolding header_memory
accepted_write h s b n e q = (e, in_front_lem h s b n (writing_header h (length s)) e q)

-- ---- for the writers above

pub with_length_lem : (d : Direction) (f : LargeFileFlag) (l : ℕ) (h : PduHeader)
    → header_length (with_length l (with_file_flag f (with_direction d h))) ≡ header_length h
unfolding header_length
with_length_lem d f l h = refl
