-- Reading a directive PDU through its code: the answer at each exit, and what a PDU that was read is known to be, for every reader.
-- Assumes nothing.
use Prim.Native.Nat.{ℕ, ◌+◌, ◌-◌, ◌≤◌, ◌<◌}
use mathlib.Core.Path.{◌≡◌, refl, sym, ap, ap₂, ◌∙◌}
use mathlib.Core.List.{List, [], ◌∷◌, ◌++◌}
use native.Mathlib.Omega.{arith}
use lib.ListN.{length, get_or, take, drop, length-drop, take-append-drop}
use lib.Seq.{get_or-take, length-take-le, take-append-le, drop-append-le}
use borrow.Author.Tests.{lt-ltb, le-ltb, ltb-false}
use Rattle.fields.specs.Answer.{Answer, accepted, short, refused, told, and_then, Test, first_of, all_of}
use Rattle.fields.specs.Staged.{Staged, accept, run, ◌>>=◌, ◌>>◌, tests}
use Rattle.fields.specs.Demand3.{AtMost, Demand3}
use Rattle.fields.proofs.Judging.{Passed, passed, same_accepted, passed_on, told_as, told_short, refused_on, told_is_refused, told_is_short}
use Rattle.fields.proofs.Staged.{run_bind, refused_bind, accepted_bind, told_before, both, passed_all, at_most_bind, run_tests, tests_none, demand3}
use Rattle.header.specs.declared.PduHeader.{PduHeader}
use Rattle.header.specs.declared.directive.DirectivePdu.{DirectivePdu}
use Rattle.header.specs.declared.code.DirectiveKind.TheVariants.{Own, Known, Unknown}
use Rattle.header.specs.declared.flags.PduType.TheVariants.{FileDirective, FileData}
use Rattle.header.specs.Flags.{pdu_type_bit}
use Rattle.header.specs.Header.{header_length, pdu_length, data_end}
use Rattle.header.specs.Reading.{reading_header}
use Rattle.header.specs.Verifying.{pdu_bytes}
use Rattle.header.specs.Code.{kind_of}
use Rattle.header.specs.Directive.{data_short, not_a_directive, least_length, PduRead, content_of, reading_directive, reading_own}
use Rattle.header.specs.Within.{verifying_read, behind_nine, directive_part, directive_bytes, verifying_directive, reading_up_to_code, code_part, own_part}
use Rattle.header.proofs.Codes.{unknown_says, known_says, own_says}
use Rattle.header.proofs.Reading.{header_two}
use Rattle.header.proofs.Verifying.{Verified, verified_refused, pdu_one, end_le}

-- ---- the tests by themselves

pub data_short_lem : (stop needed : ℕ) → stop < needed → told (6 ∷ stop ∷ needed ∷ []) ≡ all_of (data_short stop needed ∷ [])
data_short_lem stop needed l = rw (told_is_refused 6 _ refl, lt-ltb _ _ l)

pub data_reaches : (stop needed : ℕ) → needed ≤ stop → accepted tt ≡ all_of (data_short stop needed ∷ [])
data_reaches stop needed l = rw (le-ltb _ _ l)

module _ (h : PduHeader) where
  pub file_data : h.kind ≡ FileData → told (21 ∷ []) ≡ all_of (not_a_directive h ∷ [])
  file_data k = rw (told_is_refused 21 _ refl, ap pdu_type_bit k)

  pub a_directive : h.kind ≡ FileDirective → accepted tt ≡ all_of (not_a_directive h ∷ [])
  a_directive k = rw (ap pdu_type_bit k)

-- ---- reading: what is not verified is refused, and behind what is verified the tests decide

module _ (h : PduHeader) (s : List ℕ) where
  pub refused_verified : (ns : List ℕ) → told ns ≡ run (verifying_read h) s → told ns ≡ run (verifying_directive h) s
  unfolding verifying_directive directive_bytes
  refused_verified ns e = refused_bind ns (directive_bytes h) _ s (refused_bind ns (pdu_bytes h) (directive_part h) s (verified_refused h s ns e))

  module _ (stop : ℕ) (v : Verified h s stop) where
    pub short_9 : length s < least_length → told (1 ∷ length s ∷ least_length ∷ []) ≡ run (verifying_directive h) s
    unfolding verifying_directive directive_bytes directive_part pdu_bytes
    short_9 l = rw (told_is_short _ _, le-ltb _ _ v.long, v.good, lt-ltb _ _ l)

    pub tests_decide : least_length ≤ length s → first_of (behind_nine h stop) stop ≡ run (verifying_directive h) s
    unfolding behind_nine verifying_directive directive_bytes directive_part pdu_bytes
    tests_decide long = rw (le-ltb _ _ v.long, v.good, le-ltb _ _ long, v.stop_is)

-- those tests, one after the other
module _ (h : PduHeader) (stop a : ℕ) (pa : a ≡ header_length h) where
  abbrev least : List Test
  least = data_short stop least_length ∷ []

  abbrev directive : List Test
  directive = not_a_directive h ∷ []

  abbrev code : List Test
  code = data_short stop (a + 1) ∷ []

  rest : first_of (least ++ (directive ++ code)) stop ≡ first_of (behind_nine h stop) stop
  unfolding behind_nine
  rest = rw pa

  pub least_short : (ns : List ℕ) → told ns ≡ all_of least → told ns ≡ first_of (behind_nine h stop) stop
  least_short ns e = refused_on ns least (directive ++ code) tt stop e ∙ rest

  module _ (p : accepted tt ≡ all_of least) where
    passed_least : Passed least
    passed_least = (passed least tt tt p).0

    pub no_directive : (ns : List ℕ) → told ns ≡ all_of directive → told ns ≡ first_of (behind_nine h stop) stop
    no_directive ns e = refused_on ns directive code tt stop e ∙ sym (passed_on least (directive ++ code) stop passed_least) ∙ rest

    module _ (q : accepted tt ≡ all_of directive) where
      behind_type : first_of code stop ≡ first_of (behind_nine h stop) stop
      behind_type = sym (passed_on directive code stop (passed directive tt tt q).0) ∙ sym (passed_on least (directive ++ code) stop passed_least) ∙ rest

      pub no_code : (ns : List ℕ) → told ns ≡ all_of code → told ns ≡ first_of (behind_nine h stop) stop
      no_code ns e = refused_on ns code [] tt stop e ∙ behind_type

      pub code_there : accepted tt ≡ all_of code → accepted stop ≡ first_of (behind_nine h stop) stop
      code_there r = sym (passed_on code [] stop (passed code tt tt r).0) ∙ behind_type

-- ---- reading a PDU up to its code: the header's refusal, the verification's, or both parts

abbrev pub pdu_of : PduHeader → ℕ → DirectivePdu
pdu_of h stop = record { header = h; stop = stop }

abbrev pub on : PduHeader → Staged DirectivePdu
on h = verifying_directive h >>= λ stop. accept (pdu_of h stop)

module _ (s : List ℕ) where
  pub no_header : (ns : List ℕ) → told ns ≡ run reading_header s → told ns ≡ run reading_up_to_code s
  unfolding reading_up_to_code
  no_header ns e = refused_bind ns reading_header on s e

  module _ (h : PduHeader) (e : accepted h ≡ run reading_header s) where
    behind_header : run (on h) s ≡ run reading_up_to_code s
    unfolding reading_up_to_code
    behind_header = accepted_bind reading_header on s h e

    pub not_verified : (ns : List ℕ) → told ns ≡ run (verifying_directive h) s → told ns ≡ run reading_up_to_code s
    not_verified ns d = refused_bind ns (verifying_directive h) (λ stop. accept (pdu_of h stop)) s d ∙ behind_header

    pub directive_read : (stop : ℕ) → accepted stop ≡ run (verifying_directive h) s → accepted (pdu_of h stop) ≡ run reading_up_to_code s
    directive_read stop d = accepted_bind (verifying_directive h) (λ stop. accept (pdu_of h stop)) s stop d ∙ behind_header

-- ---- what a PDU that was verified is known to be

pub record VerifiedDirective (h : PduHeader) (s : List ℕ) (stop : ℕ) : Type 0 where
  pub long : pdu_length h ≤ length s
  pub bytes_are : run (directive_bytes h) s ≡ accepted (take (pdu_length h) s)
  pub stop_is : stop ≡ data_end h
  pub code_in : header_length h + 1 ≤ data_end h

pub verified_directive : (h : PduHeader) (s : List ℕ) (stop : ℕ) → accepted stop ≡ run (verifying_directive h) s → VerifiedDirective h s stop
unfolding verifying_directive directive_bytes directive_part pdu_bytes
verified_directive h s stop e =
    let p = passed_all (verifying_directive h) s stop (sym e) in
    let q = p.1.1.1.1 in
    record {
      long = p.0;
      bytes_are = rw (le-ltb _ _ p.0, p.1.0, le-ltb _ _ p.1.1.0, p.1.1.1.0, q.0, q.1.0);
      stop_is = sym q.1.1;
      code_in = ltb-false _ _ q.1.0;
    }

pub directive_refused : (h : PduHeader) (s ns : List ℕ) → told ns ≡ run (verifying_directive h) s → told ns ≡ run (directive_bytes h) s
unfolding verifying_directive
directive_refused h s ns e = told_before ns (directive_bytes h) (λ _. data_end h) s e

-- so a reader that goes on behind the bytes of a directive PDU refuses what the PDU is refused with, and behind one that was read its own stages decide
module _ {A : Type 0} (k : PduHeader → List ℕ → Staged A) (s : List ℕ) where
  abbrev going_on : PduHeader → Staged A
  going_on h = directive_bytes h >>= k h

  pub pdu_refused : (ns : List ℕ) → told ns ≡ run reading_up_to_code s → told ns ≡ run (reading_header >>= going_on) s
  unfolding reading_up_to_code
  pdu_refused ns e = go (run reading_header s) refl (e ∙ run_bind reading_header on s)
    where
      go : (o : Answer PduHeader) → run reading_header s ≡ o → told ns ≡ and_then o (λ h. run (on h) s) → told ns ≡ run (reading_header >>= going_on) s
      go (accepted h) p d =
          let b : told ns ≡ run (directive_bytes h) s = directive_refused h s ns (told_before ns (verifying_directive h) (pdu_of h) s d) in
          refused_bind ns (directive_bytes h) (k h) s b ∙ accepted_bind reading_header going_on s h (sym p)
      go (short l n) p d = refused_bind ns reading_header going_on s (told_short ns l n d ∙ sym p)
      go (refused ms) p d = refused_bind ns reading_header going_on s (told_as ns ms d ∙ sym p)

  pub pdu_read : (d : DirectivePdu) → accepted d ≡ run reading_up_to_code s
      → VerifiedDirective d.header s d.stop × (run (k d.header (take (pdu_length d.header) s)) s ≡ run (reading_header >>= going_on) s)
  unfolding reading_up_to_code
  pdu_read d e =
      let m = both reading_header on s d (sym e) in
      let h = m.mid in
      let n = both (verifying_directive h) (λ stop. accept (pdu_of h stop)) s d m.second in
      let is : pdu_of h n.mid ≡ d = same_accepted _ _ n.second in
      let v : VerifiedDirective h s n.mid = verified_directive h s n.mid (sym n.first) in
      rw (← is) (v, accepted_bind (directive_bytes h) (k h) s _ (sym v.bytes_are) ∙ accepted_bind reading_header going_on s h (sym m.first))

-- a directive PDU asks twice for bytes, and what it hands on are its first P bytes
pub directive_two : (h : PduHeader) → AtMost (directive_bytes h) 2
unfolding directive_bytes directive_part
directive_two h = at_most_bind (pdu_bytes h) (directive_part h) 1 1 (pdu_one h) (λ p _. tt)

pub directive_is : (h : PduHeader) (s p : List ℕ) → run (directive_bytes h) s ≡ accepted p → (pdu_length h ≤ length s) × (take (pdu_length h) s ≡ p)
unfolding directive_bytes directive_part pdu_bytes
directive_is h s p e =
    let k = passed_all (directive_bytes h) s p e in
    (k.0, k.1.1.1.1.1.1)

-- a PDU whose bytes are good passes, if it is a directive's and holds the code
pub directive_passes : (h : PduHeader) (s p : List ℕ) → run (pdu_bytes h) s ≡ accepted p → 9 ≤ length s → 9 ≤ data_end h → h.kind ≡ FileDirective
    → header_length h + 1 ≤ data_end h
    → run (directive_bytes h) s ≡ accepted p
unfolding directive_bytes directive_part
directive_passes h s p e long e9 kind code =
    sym (accepted_bind (pdu_bytes h) (directive_part h) s p (sym e)) ∙ rw (le-ltb _ _ long, le-ltb _ _ e9, ap pdu_type_bit kind, le-ltb _ _ code)

-- the stages as the functions share them are the definition
in_stages_lem : (own : ℕ) → reading_header >>= own_part own ≡ reading_directive own
unfolding reading_directive own_part directive_bytes directive_part code_part pdu_bytes
in_stages_lem own = refl

pub staged : (own : ℕ) (s : List ℕ) → run (reading_header >>= λ h. directive_bytes h >>= code_part own h) s ≡ run (reading_directive own) s
unfolding own_part
staged own s = ap (λ (r : Staged PduRead). run r s) (in_stages_lem own)

-- ---- the exits of the reading
abbrev told_stop : PduRead → DirectivePdu
told_stop d = record { header = d.header; stop = data_end d.header }

module _ (own : ℕ) (s : List ℕ) where
  pub no_pdu : (ns : List ℕ) → told ns ≡ run reading_up_to_code s → told ns ≡ run (reading_own own) s
  unfolding reading_own
  no_pdu ns e = refused_bind ns (reading_directive own) (λ d. accept (told_stop d)) s (pdu_refused (code_part own) s ns e ∙ staged own s)

  module _ (d : DirectivePdu) (e : accepted d ≡ run reading_up_to_code s) where
    known : VerifiedDirective d.header s d.stop
    known = (pdu_read (code_part own) s d e).0

    behind : run (code_part own d.header (take (pdu_length d.header) s) >>= λ r. accept (told_stop r)) s ≡ run (reading_own own) s
    unfolding reading_own
    behind =
        run_bind (code_part own d.header (take (pdu_length d.header) s)) (λ r. accept (told_stop r)) s
        ∙ ap (λ (o : Answer PduRead). and_then o (λ r. run (accept (told_stop r)) s)) ((pdu_read (code_part own) s d e).1 ∙ staged own s)
        ∙ sym (run_bind (reading_directive own) (λ r. accept (told_stop r)) s)

    module _ (a : ℕ) (pa : a ≡ header_length d.header) where
      pub code_lies : a < length s
      code_lies = let v = known in omega (arith, v.long, v.code_in, end_le d.header)

      code_is : get_or (take (pdu_length d.header) s) (header_length d.header) 0 ≡ get_or s a 0
      code_is =
          let v = known in
          let l : header_length d.header < pdu_length d.header = omega (arith, v.code_in, end_le d.header) in
          get_or-take (pdu_length d.header) s (header_length d.header) 0 l ∙ ap (λ (i : ℕ). get_or s i 0) (sym pa)

      pub unknown_read : Unknown ≡ kind_of own (get_or s a 0) → told (7 ∷ get_or s a 0 ∷ []) ≡ run (reading_own own) s
      unfolding code_part
      unknown_read k = rw (told_is_refused 7 _ refl, ← behind, code_is, unknown_says own _ k)

      pub known_read : Known ≡ kind_of own (get_or s a 0) → told (8 ∷ get_or s a 0 ∷ []) ≡ run (reading_own own) s
      unfolding code_part
      known_read k = let w = known_says own _ k in rw (told_is_refused 8 _ refl, ← behind, code_is, w.0, w.1)

      pub own_read : Own ≡ kind_of own (get_or s a 0) → accepted d ≡ run (reading_own own) s
      unfolding code_part
      own_read k = let w = own_says own _ k in let v = known in rw (← behind, code_is, w.0, w.1, ← v.stop_is)

-- a part of the first n bytes is that part of all of them
part_in : (s : List ℕ) (n a m : ℕ) → n ≤ length s → a + m ≤ n → take m (drop a (take n s)) ≡ take m (drop a s)
part_in s n a m h k =
    let X = take n s in
    let l : length X ≡ n = length-take-le n s h in
    let d : length (drop a X) ≡ length X - a = length-drop a X in
    sym
    (ap (λ (x : List ℕ). take m (drop a x)) (sym (take-append-drop n s))
    ∙ ap (take m) (drop-append-le a X (drop n s) (omega arith))
    ∙ take-append-le m (drop a X) (drop n s) (omega arith))

-- a PDU that was read through its code
record Parts (s : List ℕ) (r : PduRead) : Type 0 where
  long : pdu_length r.header ≤ length s
  content_is : content_of r.header s ≡ r.content
  code_in : header_length r.header + 1 ≤ data_end r.header

code_in_data : (h : PduHeader) (s p : List ℕ) → run (directive_bytes h) s ≡ accepted p → header_length h + 1 ≤ data_end h
unfolding directive_bytes directive_part pdu_bytes
code_in_data h s p e = let k = passed_all (directive_bytes h) s p e in ltb-false _ _ k.1.1.1.1.1.0

same_read : (own : ℕ) (h : PduHeader) (p s : List ℕ) (r : PduRead) → run (code_part own h p) s ≡ accepted r → record { header = h; content = content_of h p } ≡ r
unfolding code_part
same_read own h p s r e = (passed_all (code_part own h p) s r e).1.1

content_in : (h : PduHeader) (s p : List ℕ) → pdu_length h ≤ length s → take (pdu_length h) s ≡ p → header_length h + 1 ≤ data_end h → content_of h s ≡ content_of h p
unfolding content_of
content_in h s p l e c =
    sym (part_in s (pdu_length h) (header_length h) (data_end h - header_length h) l (omega (arith, end_le h)))
    ∙ ap (λ (x : List ℕ). take (data_end h - header_length h) (drop (header_length h) x)) e

own_parts : (own : ℕ) (s : List ℕ) (r : PduRead) → run (reading_directive own) s ≡ accepted r → Parts s r
unfolding own_part
own_parts own s r e =
    let m = both reading_header (own_part own) s r (ap (λ (x : Staged PduRead). run x s) (in_stages_lem own) ∙ e) in
    let h = m.mid in
    let n = both (directive_bytes h) (code_part own h) s r m.second in
    let is = same_read own h n.mid s r n.second in
    let k = directive_is h s n.mid n.first in
    let c = code_in_data h s n.mid n.first in
    rw (← is) (record { long = k.0; content_is = content_in h s n.mid k.0 k.1 c; code_in = c })

-- its data end within the bytes
pub stops_inside : (own : ℕ) (s : List ℕ) (r : PduRead) → run (reading_directive own) s ≡ accepted r → data_end r.header ≤ length s
stops_inside own s r e = omega (arith, (own_parts own s r e).long, end_le r.header)

-- what is known of it: its data are the bytes from a up to E
pub record OwnRead (h : PduHeader) (s : List ℕ) (stop a : ℕ) : Type 0 where
  pub stop_is : stop ≡ data_end h
  pub before : a ≤ stop
  pub inside : stop ≤ length s
  pub size : header_length h + length (take (stop - a) (drop a s)) ≡ stop

lies : (d : DirectivePdu) (s : List ℕ) (a : ℕ) → a ≡ header_length d.header → d.stop ≡ data_end d.header → pdu_length d.header ≤ length s
    → header_length d.header + 1 ≤ data_end d.header
    → OwnRead d.header s d.stop a
lies d s a pa pe long code =
    let E = data_end d.header in
    let H = header_length d.header in
    let w : E ≤ length s = omega (arith, end_le d.header) in
    let size : length (take (d.stop - a) (drop a s)) ≡ d.stop - a = length-take-le (d.stop - a) (drop a s) (omega (arith, length-drop a s)) in
    record { stop_is = pe; before = omega arith; inside = omega arith; size = omega arith }

data_is : (d : DirectivePdu) (s : List ℕ) (a : ℕ) → a ≡ header_length d.header → d.stop ≡ data_end d.header
    → take (d.stop - a) (drop a s) ≡ content_of d.header s
unfolding content_of
data_is d s a pa pe = rw (pe, pa)

-- ---- four refusals as short: 4 bytes, h, P and 9

directive_four : (own : ℕ) → AtMost (reading_directive own) 4
unfolding reading_directive pdu_bytes
directive_four own = at_most_bind reading_header _ 2 2 header_two (λ h _ _. tt)

pub own_four : (own : ℕ) → AtMost (reading_own own) 4
unfolding reading_own
own_four own = at_most_bind (reading_directive own) (λ d. accept (told_stop d)) 4 0 (directive_four own) (λ _. tt)

-- ---- for the readers above: behind its own code a reader tests, and then accepts

module _ {A : Type 0} (own : ℕ) (ts : PduHeader → List ℕ → List Test) (x : PduHeader → List ℕ → A) where
  abbrev pub next : PduRead → Staged A
  next d = tests (ts d.header d.content) >> accept (x d.header d.content)

  abbrev pub reader : Staged A
  reader = reading_directive own >>= next

  reader_four : AtMost reader 4
  reader_four = at_most_bind (reading_directive own) next 4 0 (directive_four own) (λ d. tests_none (ts d.header d.content) (x d.header d.content))

  -- DEMAND 3: at most four refusals as short
  pub reader_demand3 : Demand3 (run reader) 4
  reader_demand3 = demand3 (run reader) 4 reader reader_four (λ s. refl)

  module _ (s : List ℕ) where
    pub refused_own : (ns : List ℕ) → told ns ≡ run (reading_own own) s → told ns ≡ run reader s
    unfolding reading_own
    refused_own ns e = refused_bind ns (reading_directive own) next s (told_before ns (reading_directive own) told_stop s e)

    -- of what was read through its code the data lies in the bytes, and its tests decide
    pub read_own : (d : DirectivePdu) (a : ℕ) → accepted d ≡ run (reading_own own) s → a ≡ header_length d.header
        → OwnRead d.header s d.stop a × (first_of (ts d.header (take (d.stop - a) (drop a s))) (x d.header (take (d.stop - a) (drop a s))) ≡ run reader s)
    unfolding reading_own
    read_own d a e pa =
        let m = both (reading_directive own) (λ r. accept (told_stop r)) s d (sym e) in
        let r = m.mid in
        let is : told_stop r ≡ d = same_accepted _ _ m.second in
        let hs : r.header ≡ d.header = ap (λ (y : DirectivePdu). y.header) is in
        let k = own_parts own s r m.first in
        let pe : d.stop ≡ data_end d.header = sym (ap (λ (y : DirectivePdu). y.stop) is) ∙ ap data_end hs in
        let c : take (d.stop - a) (drop a s) ≡ r.content = data_is d s a pa pe ∙ ap (λ (y : PduHeader). content_of y s) (sym hs) ∙ k.content_is in (
          lies d s a pa pe (rw hs at k.long) (rw hs at k.code_in),
          ap₂ (λ (y : PduHeader) (b : List ℕ). first_of (ts y b) (x y b)) (sym hs) c
              ∙ sym (run_tests (ts r.header r.content) (x r.header r.content) s)
              ∙ accepted_bind (reading_directive own) next s r (sym m.first),
        )
