-- Reserving and finishing: the answer at each exit, what finishing leaves in the buffer, and that what was reserved, filled and finished was written.
-- Assumes nothing.
use Prim.Native.Nat.{ℕ, ◌+◌, ◌-◌, ◌*◌, ◌/◌, ◌%◌, ◌≤◌}
use mathlib.Core.Path.{◌≡◌, refl, sym, ap, ap₂, subst, ◌∙◌}
use mathlib.Core.List.{List, [], ◌∷◌, ◌++◌, append_assoc}
use native.Mathlib.Nat.{zero-add}
use native.Mathlib.Omega.{arith}
use lib.ListN.{length, take, drop, length-append, length-drop}
use lib.Seq.{sets, length-sets, length-take-le}
use borrow.Author.Tests.{eq-eqb}
use Rattle.fields.specs.Answer.{Answer, accepted, told, Test, first_of}
use Rattle.fields.proofs.BigEndian.{then_sets, sets_append}
use Rattle.fields.proofs.Judging.{Passed, same_accepted, went, refused_then, accepted_then}
use Rattle.header.specs.declared.PduHeader.{PduHeader}
use Rattle.header.specs.declared.pdu.PduWritten.{PduWritten}
use Rattle.header.specs.declared.flags.LargeFileFlag.{LargeFileFlag}
use Rattle.header.specs.declared.flags.LargeFileFlag.TheVariants.{Normal, Large}
use Rattle.header.specs.Header.{header_length, header_bytes, pdu_length, data_end, crc_length}
use Rattle.header.specs.Size.{size_width}
use Rattle.header.specs.Pdu.{pdu_over, handed_back, writing_pdu, pdu_memory, with_data, beginning, begun_memory, sealed_memory}
use Rattle.header.proofs.Writing.{header_length_lem}
use Rattle.header.proofs.Verifying.{pdu_sum, end_sum}
use Rattle.header.proofs.Pdus.{tests_alike, memory_alike, written_has, passes, memory_has, judged_refused, judged_passed, write_refused, begun_passed, begun_header, begun_room, begun_sets, write_done}
use Rattle.nak.specs.declared.reserve.ReservedNak.{ReservedNak}
use Rattle.nak.specs.Nak.{pair_size, area_start}
use Rattle.nak.specs.Writing.{numbers_bytes, scope_bytes, nak_data, data_length, filled, scope_too_large, too_many, own_tests, writing_nak, nak_memory}
use Rattle.nak.specs.Reserving.{keeping, placed, reserving, finish_tests, finishing, area_in, finished_memory}
use Rattle.nak.specs.Demands.{Written, FinishedIsWritten}
use Rattle.nak.specs.Within.{towards_sender}
use Rattle.nak.proofs.Tests.{finish_fits}
use Rattle.nak.proofs.Storing.{scope_length, data_length_lem, in_place}

-- ---- reserving

pub place_is : (h : PduHeader) (n a e : ℕ) → a ≡ area_start h → e ≡ data_end h → record { header = h; count = n; area = a; stop = e } ≡ placed h n
place_is h n a e p q = rw (p, q)

module _ (h : PduHeader) (n room : ℕ) (j : PduHeader) (pj : j ≡ towards_sender h.file h) (o : Answer ℕ) (own : o ≡ first_of (too_many h.file n ∷ []) (data_length h.file h.crc n))
    (k : PduHeader) (pk : k ≡ with_data o j) where
  pub not_reserved : (ns : List ℕ) → told ns ≡ beginning k o room → told ns ≡ reserving h n room
  unfolding reserving filled
  not_reserved ns e =
      refused_then _ (λ w. accepted (placed w.header n)) ns
      (judged_refused j (towards_sender h.file h) pj (too_many h.file n ∷ []) _ o own k pk room ns e)

  pub reserved_is : (p : ℕ) (r : ReservedNak) → accepted p ≡ beginning k o room → r ≡ placed k n → accepted r ≡ reserving h n room
  unfolding reserving filled
  reserved_is p r e q =
      ap accepted q
      ∙ accepted_then _ (λ w. accepted (placed w.header n)) (record { header = k; length = p })
      (judged_passed j (towards_sender h.file h) pj (too_many h.file n ∷ []) _ o own k pk room p e)

-- ---- finishing

-- the request bytes end with the data
area_size : (h : PduHeader) (n : ℕ) → area_start (keeping h n) + n * pair_size h.file ≡ data_end (keeping h n)
unfolding area_start filled data_length
area_size h n = omega (arith, end_sum (keeping h n), pdu_sum (keeping h n))

module _ (r : ReservedNak) (start end : ℕ) (s : List ℕ) (j : PduHeader) (pj : j ≡ towards_sender r.header.file r.header) (o : Answer ℕ)
    (own : o ≡ first_of (finish_tests r.header.file r.count start end) (data_length r.header.file r.header.crc r.count)) (k : PduHeader) (pk : k ≡ with_data o j) where
  abbrev h : PduHeader
  h = r.header

  abbrev n : ℕ
  n = r.count

  abbrev G : PduHeader
  G = towards_sender h.file h

  abbrev T : List Test
  T = finish_tests h.file n start end

  abbrev d : ℕ
  d = data_length h.file h.crc n

  abbrev content : List ℕ
  content = nak_data h.file start end (area_in (keeping h n) s)

  pub not_finished : (b ns : List ℕ) → told ns ≡ beginning k o (length s) → b ≡ begun_memory k o s
      → (told ns ≡ finishing r start end (length s)) × (b ≡ finished_memory r start end s)
  unfolding finishing finished_memory filled
  not_finished b ns e q = write_refused j G pj T d o own k pk s content b ns e q

  module _ (p : ℕ) (b : List ℕ) (e : accepted p ≡ beginning k o (length s)) (q : b ≡ begun_memory k o s) where
    header_is : k ≡ keeping h n
    unfolding filled
    header_is = begun_header j G pj T d o own k pk (length s) p e

    stored : b ≡ sets s 0 (header_bytes k)
    stored = begun_sets j G pj T d o own k pk s p b e q

    flag : k.file ≡ h.file
    unfolding filled
    flag = ap (λ (x : PduHeader). x.file) header_is

    room : pdu_length k ≤ length s
    room = begun_room j G pj T d o own k pk (length s) p e

    ends : area_start k + n * pair_size h.file ≡ data_end k
    ends = rw header_is (area_size h n)

    within : area_start k + n * pair_size h.file ≤ length s
    within = omega (arith, ends, end_sum k, room)

    area_there : area_start k ≡ header_length k + (1 + 2 * size_width h.file)
    unfolding area_start
    area_there = ap (λ (f : LargeFileFlag). header_length k + 1 + 2 * size_width f) flag ∙ omega arith

    pub finish_goes : (area_start k ≤ length b) × Passed (scope_too_large k.file start end ∷ [])
    finish_goes = (
      omega (arith, within, ap length stored ∙ length-sets s 0 (header_bytes k)),
      rw flag (finish_fits h.file n start end (begun_passed j G pj T d o own k pk (length s) p e)).1,
    )

    -- the area of the header that is handed back
    area : area_in (keeping h n) s ≡ take (n * pair_size h.file) (drop (area_start k) s)
    unfolding area_in
    area =
        let l : data_end (keeping h n) - area_start (keeping h n) ≡ n * pair_size h.file = omega (arith, area_size h n) in
        ap₂ (λ (x : ℕ) (y : PduHeader). take x (drop (area_start y) s)) l (sym header_is)

    area_long : length (area_in (keeping h n) s) ≡ n * pair_size h.file
    area_long = ap length area ∙ length-take-le (n * pair_size h.file) (drop (area_start k) s) (omega (arith, length-drop (area_start k) s, within))

    size : length content + crc_length h.crc ≡ d
    unfolding data_length
    size = omega (arith, data_length_lem h.file start end (area_in (keeping h n) s), area_long)

    -- header and scope were stored, and the request bytes stand behind them
    around : (b₁ : List ℕ) → b₁ ≡ sets b (header_length k) (scope_bytes k.file start end) → b₁ ≡ sets b (header_length k) content
    unfolding nak_data
    around b₁ q₁ =
        let H = header_bytes k in
        let S = scope_bytes h.file start end in
        let A = area_in (keeping h n) s in
        let a = header_length k in
        let lH : length H ≡ a = header_length_lem k in
        let lHS : length (H ++ S) ≡ area_start k = length-append H S ∙ omega (arith, lH, scope_length h.file start end, area_there) in
        let e₁ : b₁ ≡ sets s 0 (H ++ S) = then_sets H S s a lH stored (q₁ ∙ ap (λ (f : LargeFileFlag). sets b a (scope_bytes f start end)) flag) in
        let e₂ : sets s 0 (H ++ S) ≡ sets s 0 ((H ++ S) ++ A) =
        in_place (H ++ S) s (n * pair_size h.file) (omega (arith, lHS, within))
        ∙ ap (λ (x : List ℕ). sets s 0 ((H ++ S) ++ x)) (ap (λ (j : ℕ). take (n * pair_size h.file) (drop j s)) lHS ∙ sym area) in
        let e₃ : sets s 0 (H ++ (S ++ A)) ≡ sets b a (S ++ A) = sets_append H (S ++ A) s 0
        ∙ ap₂ (λ (l : List ℕ) (i : ℕ). sets l i (S ++ A)) (sym stored) (zero-add (length H) ∙ lH) in
        e₁ ∙ e₂ ∙ ap (sets s 0) (append_assoc H S A) ∙ e₃

    pub finished : (b₁ b₂ : List ℕ) → b₁ ≡ sets b (header_length k) (scope_bytes k.file start end) → b₂ ≡ sealed_memory k b₁
        → (accepted (record { header = k; length = p }) ≡ finishing r start end (length s)) × (b₂ ≡ finished_memory r start end s)
    unfolding finishing finished_memory filled
    finished b₁ b₂ q₁ e₂ = write_done j G pj T d o own k pk s p b e q content size (header_length k) refl b₁ b₂ (around b₁ q₁) e₂

-- of the record its header and its count decide
pub as_placed : (r : ReservedNak) (start end : ℕ) (s : List ℕ)
    → (finishing (placed r.header r.count) start end (length s) ≡ finishing r start end (length s))
    × (finished_memory (placed r.header r.count) start end s ≡ finished_memory r start end s)
unfolding finishing finished_memory
as_placed r start end s = (refl, refl)

-- ---- with no pair, finishing is writing with no list: nothing is tested but the scope, and nothing stands behind it

alike : (file : LargeFileFlag) (start end : ℕ) (w : PduWritten) (ts : List Test)
    → first_of (finish_tests file 0 start end ++ ts) w ≡ first_of (own_tests file start end 0 ++ ts) w
unfolding finish_tests own_tests
alike Normal start end w ts = refl
alike Large start end w ts = refl

no_area : (h : PduHeader) (s : List ℕ) → area_in (keeping h 0) s ≡ []
unfolding area_in
no_area h s =
    let k = keeping h 0 in
    let e : data_end k - area_start k ≡ 0 = omega (arith, area_size h 0) in
    ap (λ (n : ℕ). take n (drop (area_start k) s)) e

pub none_finished : (h : PduHeader) (start end : ℕ) (s : List ℕ)
    → (finishing (placed h 0) start end (length s) ≡ writing_nak h.file h start end 0 (length s))
    × (finished_memory (placed h 0) start end s ≡ nak_memory h.file h start end [] s)
unfolding finishing finished_memory writing_nak nak_memory numbers_bytes
none_finished h start end s =
    let k = keeping h 0 in
    let ts = finish_tests h.file 0 start end in
    let us = own_tests h.file start end 0 in (
      tests_alike k ts us (alike h.file start end (handed_back k)) (length s),
      memory_alike k ts us (alike h.file start end (handed_back k)) (nak_data h.file start end (area_in k s)) s
          ∙ ap (λ (x : List ℕ). pdu_memory k us (nak_data h.file start end x) s) (no_area h s),
    )

-- ---- what can be finished could be written, with as many pairs lent

pub finish_writes : (r : ReservedNak) (start end room : ℕ) (w : PduWritten) → accepted w ≡ finishing r start end room
    → accepted w ≡ writing_nak r.header.file r.header start end (2 * r.count) room
unfolding finishing writing_nak finish_tests own_tests
finish_writes r start end room w e =
    let h = r.header in
    let n = r.count in
    let k = keeping h n in
    let p = written_has k (finish_tests h.file n start end) room w (sym e) in
    let half : (2 * n) / 2 ≡ n = omega arith in
    let even : (2 * n) % 2 ≡ 0 = omega arith in
    let own : Passed (own_tests h.file start end (2 * n)) = (rw (eq-eqb _ _ even), (p.own_passed.1.0, (rw half p.own_passed.0, tt))) in
    ap accepted p.handed_back_lem
    ∙ passes k (own_tests h.file start end (2 * n)) room p.good own p.room_is
    ∙ ap (λ (m : ℕ). writing_pdu (filled h.file m h) (own_tests h.file start end (2 * n)) room) (sym half)

-- finished over the bytes of so many numbers it was written with these
pub over_numbers : (r : ReservedNak) (start end : ℕ) (numbers s : List ℕ) (w : PduWritten) → length numbers ≡ 2 * r.count
    → area_in (keeping r.header r.count) s ≡ numbers_bytes (size_width r.header.file) numbers → finishing r start end (length s) ≡ accepted w
    → Written r.header start end numbers s r w
unfolding finished_memory nak_memory writing_nak finishing
over_numbers r start end numbers s w e f q =
    let h = r.header in
    let k = keeping h r.count in
    let b : accepted w ≡ writing_nak h.file h start end (length numbers) (length s) =
    finish_writes r start end (length s) w (sym q) ∙ ap (λ (c : ℕ). writing_nak h.file h start end c (length s)) (sym e) in
    let c : nak_data h.file start end (area_in k s) ≡ nak_data h.file start end (numbers_bytes (size_width h.file) numbers) = ap
    (nak_data h.file start end) f in
    record {
      answer = sym b;
      bytes =
          memory_has k (finish_tests h.file r.count start end) (nak_data h.file start end (area_in k s)) s w q
          ∙ ap (λ (x : List ℕ). pdu_over w.header x ++ drop (length (pdu_over w.header x)) s) c
          ∙ sym (memory_has (filled h.file (length numbers / 2) h) (own_tests h.file start end (length numbers)) _ s w (sym b));
    }

-- of the record that reserving made
placed_written : (h : PduHeader) (n start end : ℕ) (numbers s : List ℕ) (w : PduWritten) → length numbers ≡ 2 * n
    → area_in (keeping h n) s ≡ numbers_bytes (size_width h.file) numbers → finishing (placed (keeping h n) n) start end (length s) ≡ accepted w
    → Written h start end numbers s (placed (keeping h n) n) w
unfolding nak_memory writing_nak filled
placed_written h n start end numbers s w e f q =
    let x = over_numbers (placed (keeping h n) n) start end numbers s w e f q in
    record { answer = x.answer; bytes = x.bytes }

pub finished_is_written : FinishedIsWritten
unfolding reserving area_in
finished_is_written h n room start end numbers s r w e l =
    let p = went (writing_pdu (keeping h n) (too_many h.file n ∷ []) room) _ r (sym e) in
    let m = written_has (keeping h n) (too_many h.file n ∷ []) room p.mid (sym p.first) in
    let is : r ≡ placed (keeping h n) n = same_accepted _ _ p.second ∙ ap (λ (x : PduWritten). placed x.header n) m.handed_back_lem in
    subst
    (λ (x : ReservedNak). take (x.stop - x.area) (drop x.area s) ≡ numbers_bytes (size_width h.file) numbers → finishing x start end (length s) ≡ accepted w → Written h start end numbers s x w)
    (sym is)
    (λ f q. placed_written h n start end numbers s w l f q)
