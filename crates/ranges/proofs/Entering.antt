-- One entry of a log: what is answered, and what the memory holds, at each exit of the functions that take it.
-- The ranges of the memory merged with the entry's pairs are the longest ranges of the bytes owed after it. Assumes nothing.
use Prim.Native.Nat.{ℕ, ◌≤◌, ◌<◌}
use mathlib.Core.Path.{◌≡◌, refl, sym, ap, ap₂, ◌∙◌}
use mathlib.Core.Bool.{Bool, true, false, not, ◌&&◌, ◌||◌}
use mathlib.Core.List.{List, [], ◌∷◌}
use native.Mathlib.Omega.{arith}
use lib.Dec.{eqb}
use lib.ListN.{length, replicate}
use borrow.Author.Tests.{lt-ltb, le-ltb, eq-eqb, ne_eqb}
use Rattle.std.specs.Prelude.{Option, Result, Ok, Err, if◌then◌else◌}
use Rattle.fields.specs.BigEndian.{number_at}
use Rattle.fields.specs.Answer.{Answer, accepted, short, refused, told, and_then, first_of}
use Rattle.fields.specs.Staged.{run}
use Rattle.fields.proofs.Judging.{told_on, told_either, told_no, told_as, told_short, told_is_refused, refused_then, accepted_then}
use Rattle.nak.specs.declared.Nak.{Nak}
use Rattle.nak.specs.Reading.{reading_nak}
use Rattle.nak.specs.Requests.{area_of, pairs_of}
use Rattle.tlv.specs.declared.Form.TheVariants.{LongTlv}
use Rattle.tlv.specs.declared.Field.{Field}
use Rattle.tlv.specs.declared.Cut.{Cut}
use Rattle.tlv.specs.Reading.{field_in, value_of}
use Rattle.tlv.proofs.Reading.{is_field}
use Rattle.ranges.specs.declared.merge.Rule.{Rule}
use Rattle.ranges.specs.declared.merge.Rule.TheVariants.{Either, Without}
use Rattle.ranges.specs.declared.order.Asked.{Asked}
use Rattle.ranges.specs.declared.owed.FirstNak.{FirstNak}
use Rattle.ranges.specs.Pairs.{asks, spans, in_or_not}
use Rattle.ranges.specs.Merging.{largest, label_of, labelling, merged}
use Rattle.ranges.specs.Order.{others, disorder}
use Rattle.ranges.specs.Sources.{pairs_in}
use Rattle.ranges.specs.Within.{AsksOrWrong, laid}
use Rattle.ranges.specs.Owing.{Entry, resent, ranges_of, State, most, first_after, differs, differs_from, in_order, after, too_many, judging}
use Rattle.ranges.specs.Memory.{state_size, ranges_in, first_in, state_in, is_state}
use Rattle.ranges.specs.Log.{heard_of, resent_of, contents_of, entry_in, reading_entry, entry_size, entering, left_by, entry_taken, entry_memory}
use Rattle.ranges.specs.OwedWithin.{head_put, owing_with, heard_in, resent_in, contents_taken, judged_only}
use Rattle.ranges.proofs.Spans.{runs_like, length_spans}
use Rattle.ranges.proofs.Memory.{put_memory}

-- an answer, and the memory that it leaves
abbrev pub Taken : Answer (Unit {0}) → List ℕ → Answer State → List ℕ → Type 0
Taken a m' o m = (a ≡ judged_only o) × (m' ≡ left_by o m)

-- ---- refusals

left_told : (ns : List ℕ) (m : List ℕ) → left_by (told ns) m ≡ m
left_told ns m = told_either (λ o. left_by o m) m ns (λ l n. refl) (λ ms. refl)

-- a refusal leaves the memory as it was
pub refused_entry : (ns : List ℕ) (o : Answer State) (m : List ℕ) → told ns ≡ o → Taken (told ns) m o m
refused_entry ns o m e =
    (sym (told_on ns (λ _. accepted tt)) ∙ ap judged_only e, sym (left_told ns m) ∙ ap (λ (x : Answer State). left_by x m) e)

refused_told : (n : ℕ) (ms : List ℕ) (o : Answer State) → eqb n 1 ≡ false → refused (n ∷ ms) ≡ o → told (n ∷ ms) ≡ o
refused_told n ms o z e = told_is_refused n ms z ∙ e

-- ---- 27

module _ (rule : Rule) (f : Option FirstNak) (qs : List (ℕ × ℕ)) (m : List ℕ) (n : ℕ) (e : n ≡ length (merged rule (ranges_in m) qs)) where
  many_is : most < n → refused (27 ∷ []) ≡ owing_with rule f qs m
  unfolding owing_with
  many_is h =
      let k : most < length (spans (merged rule (ranges_in m) qs)) = omega (arith, length_spans (merged rule (ranges_in m) qs)) in
      rw (lt-ltb most (length (spans (merged rule (ranges_in m) qs))) k)

  pub owe_many : most < n → Taken (told (27 ∷ [])) m (owing_with rule f qs m) m
  owe_many h = refused_entry (27 ∷ []) (owing_with rule f qs m) m (refused_told 27 [] (owing_with rule f qs m) refl (many_is h))

  done_is : n ≤ most → accepted (record { ranges = spans (merged rule (ranges_in m) qs); first = f }) ≡ owing_with rule f qs m
  unfolding owing_with
  done_is h =
      let k : length (spans (merged rule (ranges_in m) qs)) ≤ most = omega (arith, length_spans (merged rule (ranges_in m) qs)) in
      rw (le-ltb most (length (spans (merged rule (ranges_in m) qs))) k)

  pub owe_done : (x m' : List ℕ) → n ≤ most → x ≡ laid false (replicate state_size 0) 0 (merged rule (ranges_in m) qs) → m' ≡ head_put x n f
      → Taken (accepted tt) m' (owing_with rule f qs m) m
  owe_done x m' h l k = (
    ap judged_only (done_is h),
    k ∙ ap (λ (y : List ℕ). head_put y n f) l ∙ put_memory (merged rule (ranges_in m) qs) f n e h ∙ ap (λ (x : Answer State). left_by x m) (done_is h),
  )

-- ---- what is merged is what is owed

merged_heard : (ps qs : List (ℕ × ℕ)) → spans (merged Either ps qs) ≡ ranges_of (λ b. (asks ps b || asks qs b) && not false)
unfolding merged ranges_of
merged_heard ps qs =
    ap spans (runs_like (labelling Either ps qs) (in_or_not (λ b. (asks ps b || asks qs b) && not false)) 0 largest (λ b p q. go (asks ps b) (asks qs b)))
  where
    go : (c d : Bool) → label_of Either c d ≡ (if (c || d) && not false then 1 else 0)
    go true d = refl
    go false true = refl
    go false false = refl

merged_resent : (ps qs : List (ℕ × ℕ)) → spans (merged Without ps qs) ≡ ranges_of (λ b. (asks ps b || false) && not (asks qs b))
unfolding merged ranges_of
merged_resent ps qs =
    ap spans (runs_like (labelling Without ps qs) (in_or_not (λ b. (asks ps b || false) && not (asks qs b))) 0 largest (λ b p q. go (asks ps b) (asks qs b)))
  where
    go : (c d : Bool) → label_of Without c d ≡ (if (c || false) && not d then 1 else 0)
    go true true = refl
    go true false = refl
    go false d = refl

-- ---- 18, 19, and then 27

module _ (s : State) (at : ℕ) (e : Entry) where
  pub out_of_order_lem : in_order e ≡ false → refused (18 ∷ at ∷ []) ≡ judging s at e
  unfolding judging
  out_of_order_lem h = rw h

  pub other_transaction : in_order e ≡ true → differs_from s.first e ≡ true → refused (19 ∷ []) ≡ judging s at e
  unfolding judging
  other_transaction h k = rw (h, k)

  pub in_place : in_order e ≡ true → differs_from s.first e ≡ false → first_of (too_many (after s e).ranges ∷ []) (after s e) ≡ judging s at e
  unfolding judging
  in_place h k = rw (h, k)

owing_is : (rule : Rule) (f : Option FirstNak) (qs : List (ℕ × ℕ)) (m : List ℕ) (t : State) → spans (merged rule (ranges_in m) qs) ≡ t.ranges → f ≡ t.first
    → owing_with rule f qs m ≡ first_of (too_many t.ranges ∷ []) t
unfolding owing_with
owing_is rule f qs m t p q =
    ap₂ (λ (x : List (ℕ × ℕ)) (y : Option FirstNak). first_of (too_many x ∷ []) (record { ranges = x; first = y })) p q

-- ---- a NAK

module _ (at : ℕ) (c m : List ℕ) where
  not_read : (ns : List ℕ) → told ns ≡ run reading_nak c → told ns ≡ heard_in at c m
  unfolding heard_in
  not_read ns e = refused_then (run reading_nak c) (λ n. judging (state_in m) at (heard_of n c)) ns e

  pub heard_refused : (ns : List ℕ) → told ns ≡ run reading_nak c → Taken (told ns) m (heard_in at c m) m
  heard_refused ns e = refused_entry ns (heard_in at c m) m (not_read ns e)

  module _ (n : Nak) (e : accepted n ≡ run reading_nak c) where
    as_heard : judging (state_in m) at (heard_of n c) ≡ heard_in at c m
    unfolding heard_in
    as_heard = accepted_then (run reading_nak c) (λ n. judging (state_in m) at (heard_of n c)) n e

    abbrev pub pairs : List (ℕ × ℕ)
    pairs = pairs_of n.header.file (area_of n c)

    order_is : in_order (heard_of n c) ≡ eqb (disorder pairs) 0
    unfolding heard_of
    order_is = refl

    differs_is : differs_from (state_in m).first (heard_of n c) ≡ differs (first_in m) n.header.source.0 n.header.sequence.0.value
    unfolding heard_of state_in
    differs_is = refl

    -- the pairs of the request area, and whether they rise
    module _ (ps : List (ℕ × ℕ)) (ep : ps ≡ pairs) where
      pub heard_wrong : (w : ℕ) → AsksOrWrong (Err w) ps → Taken (told (18 ∷ at ∷ [])) m (heard_in at c m) m
      heard_wrong w z =
          refused_entry (18 ∷ at ∷ []) (heard_in at c m) m
          (refused_told 18 (at ∷ []) (heard_in at c m) refl
          (out_of_order_lem (state_in m) at (heard_of n c) (order_is ∙ ne_eqb (disorder pairs) 0 (rw ep at z.1)) ∙ as_heard))

      module _ (x : Asked) (z : AsksOrWrong (Ok x) ps) (f : Option FirstNak) (d : Bool) (ef : f ≡ first_in m) (ed : d ≡ differs f n.header.source.0 n.header.sequence.0.value) where
        risen : in_order (heard_of n c) ≡ true
        risen = order_is ∙ eq-eqb (disorder pairs) 0 (rw ep at z.2)

        differs_now : differs_from (state_in m).first (heard_of n c) ≡ d
        differs_now = differs_is ∙ sym (ed ∙ ap (λ (x : Option FirstNak). differs x n.header.source.0 n.header.sequence.0.value) ef)

        pub heard_differs : d ≡ true → Taken (told (19 ∷ [])) m (heard_in at c m) m
        heard_differs y =
            refused_entry (19 ∷ []) (heard_in at c m) m
            (refused_told 19 [] (heard_in at c m) refl (other_transaction (state_in m) at (heard_of n c) risen (differs_now ∙ y) ∙ as_heard))

        module _ (y : d ≡ false) (g : Option FirstNak) (eg : g ≡ first_after f n.header.source.0 n.header.sequence.0.value) where
          abbrev qs : List (ℕ × ℕ)
          qs = pairs_in x.others

          after_is : (spans (merged Either (ranges_in m) qs) ≡ (after (state_in m) (heard_of n c)).ranges) × (g ≡ (after (state_in m) (heard_of n c)).first)
          unfolding after heard_of state_in
          after_is = (
            ap (λ (x : List (ℕ × ℕ)). spans (merged Either (ranges_in m) x)) (z.1 ∙ ap others ep) ∙ merged_heard (ranges_in m) (others pairs),
            eg ∙ ap (λ (x : Option FirstNak). first_after x n.header.source.0 n.header.sequence.0.value) ef,
          )

          owing_heard : owing_with Either g qs m ≡ heard_in at c m
          owing_heard =
              owing_is Either g qs m (after (state_in m) (heard_of n c)) after_is.0 after_is.1
              ∙ in_place (state_in m) at (heard_of n c) risen (differs_now ∙ y)
              ∙ as_heard

          pub heard_owes : (r : Answer (Unit {0})) (m' : List ℕ) → Taken r m' (owing_with Either g qs m) m → Taken r m' (heard_in at c m) m
          heard_owes r m' t = (t.0 ∙ ap judged_only owing_heard, t.1 ∙ ap (λ (x : Answer State). left_by x m) owing_heard)

-- ---- a resent range

module _ (at : ℕ) (c m : List ℕ) (from to : ℕ) (ef : from ≡ number_at c 0 8) (et : to ≡ number_at c 8 8) where
  as_resent : resent (from, to) ≡ resent_of c
  unfolding resent_of
  as_resent = ap₂ (λ (x y : ℕ). resent (x, y)) ef et

  resent_is : judging (state_in m) at (resent (from, to)) ≡ resent_in at c m
  unfolding resent_in
  resent_is = ap (judging (state_in m) at) as_resent

  pub resent_wrong : to ≤ from → Taken (told (18 ∷ at ∷ [])) m (resent_in at c m) m
  resent_wrong h =
      refused_entry (18 ∷ at ∷ []) (resent_in at c m) m
      (refused_told 18 (at ∷ []) (resent_in at c m) refl (out_of_order_lem (state_in m) at (resent (from, to)) (le-ltb from to h) ∙ resent_is))

  module _ (h : from < to) (f : Option FirstNak) (e : f ≡ first_in m) where
    resent_after : (spans (merged Without (ranges_in m) ((from, to) ∷ [])) ≡ (after (state_in m) (resent (from, to))).ranges) × (f ≡ (after (state_in m) (resent (from, to))).first)
    unfolding after state_in
    resent_after = (merged_resent (ranges_in m) ((from, to) ∷ []), e)

    owing_resent : owing_with Without f ((from, to) ∷ []) m ≡ resent_in at c m
    owing_resent =
        owing_is Without f ((from, to) ∷ []) m (after (state_in m) (resent (from, to))) resent_after.0 resent_after.1
        ∙ in_place (state_in m) at (resent (from, to)) (lt-ltb from to h) refl
        ∙ resent_is

    pub resent_owes : (a : Answer (Unit {0})) (m' : List ℕ) → Taken a m' (owing_with Without f ((from, to) ∷ []) m) m → Taken a m' (resent_in at c m) m
    resent_owes a m' t = (t.0 ∙ ap judged_only owing_resent, t.1 ∙ ap (λ (x : Answer State). left_by x m) owing_resent)

-- ---- the contents of a tag

then_then : (o : Answer Nak) (g : Nak → Entry) (f : Entry → Answer State) → and_then (and_then o (λ n. accepted (g n))) f ≡ and_then o (λ n. f (g n))
then_then (accepted n) g f = refl
then_then (short l n) g f = refl
then_then (refused ns) g f = refl

module _ (at tag : ℕ) (c m : List ℕ) where
  heard_is : tag ≡ 1 → heard_in at c m ≡ contents_taken at tag c m
  unfolding heard_in contents_taken contents_of
  heard_is e = rw (eq-eqb tag 1 e) (sym (then_then (run reading_nak c) (λ n. heard_of n c) (judging (state_in m) at)))

  pub tag_heard : tag ≡ 1 → (a : Answer (Unit {0})) (m' : List ℕ) → Taken a m' (heard_in at c m) m → Taken a m' (contents_taken at tag c m) m
  tag_heard e a m' t = (t.0 ∙ ap judged_only (heard_is e), t.1 ∙ ap (λ (x : Answer State). left_by x m) (heard_is e))

  module _ (n : tag ≡ 1 → ⊥) where
    unknown : (tag ≡ 2 → ⊥) → refused (26 ∷ at ∷ []) ≡ contents_taken at tag c m
    unfolding contents_taken contents_of
    unknown k = rw (ne_eqb tag 1 n, ne_eqb tag 2 k)

    pub tag_unknown : (tag ≡ 2 → ⊥) → Taken (told (26 ∷ at ∷ [])) m (contents_taken at tag c m) m
    tag_unknown k = refused_entry (26 ∷ at ∷ []) (contents_taken at tag c m) m (refused_told 26 (at ∷ []) (contents_taken at tag c m) refl (unknown k))

    module _ (k : tag ≡ 2) where
      odd_length : (length c ≡ 16 → ⊥) → refused (26 ∷ at ∷ []) ≡ contents_taken at tag c m
      unfolding contents_taken contents_of
      odd_length l = rw (ne_eqb tag 1 n, eq-eqb tag 2 k, ne_eqb (length c) 16 l)

      pub tag_length : (length c ≡ 16 → ⊥) → Taken (told (26 ∷ at ∷ [])) m (contents_taken at tag c m) m
      tag_length l = refused_entry (26 ∷ at ∷ []) (contents_taken at tag c m) m (refused_told 26 (at ∷ []) (contents_taken at tag c m) refl (odd_length l))

      resent_there : length c ≡ 16 → resent_in at c m ≡ contents_taken at tag c m
      unfolding resent_in contents_taken contents_of
      resent_there l = rw (ne_eqb tag 1 n, eq-eqb tag 2 k, eq-eqb (length c) 16 l)

      pub tag_resent : length c ≡ 16 → (a : Answer (Unit {0})) (m' : List ℕ) → Taken a m' (resent_in at c m) m → Taken a m' (contents_taken at tag c m) m
      tag_resent l a m' t = (t.0 ∙ ap judged_only (resent_there l), t.1 ∙ ap (λ (x : Answer State). left_by x m) (resent_there l))

-- ---- the entry

-- an answer of an entry, and the memory that it leaves
abbrev pub Entered : Answer ℕ → List ℕ → ℕ → List ℕ → List ℕ → Type 0
Entered a m' at s m = (a ≡ entry_taken at s m) × (m' ≡ entry_memory at s m)

module _ (at : ℕ) (s m : List ℕ) where
  refused_here : (n : ℕ) (ms : List ℕ) → eqb n 1 ≡ false → refused (n ∷ ms) ≡ entering at s m → Entered (told (n ∷ ms)) m at s m
  unfolding entry_taken entry_memory
  refused_here n ms z e =
      (told_is_refused n ms z ∙ ap (λ (x : Answer State). and_then x (λ _. accepted (entry_size s))) e, ap (λ (x : Answer State). left_by x m) e)

  not_a_state : is_state m ≡ false → refused (23 ∷ []) ≡ entering at s m
  unfolding entering
  not_a_state e = rw e

  pub no_state : is_state m ≡ false → Entered (told (23 ∷ [])) m at s m
  no_state e = refused_here 23 [] refl (not_a_state e)

  module _ (ok : is_state m ≡ true) where
    cut_is : (cut : Cut) → Err cut ≡ field_in LongTlv s 0 → refused (26 ∷ at ∷ []) ≡ entering at s m
    unfolding entering reading_entry
    cut_is cut e = rw ok (ap (λ (x : Result Field Cut). and_then (entry_in at s x) (judging (state_in m) at)) e)

    pub entry_cut : (cut : Cut) → Err cut ≡ field_in LongTlv s 0 → Entered (told (26 ∷ at ∷ [])) m at s m
    entry_cut cut e = refused_here 26 (at ∷ []) refl (cut_is cut e)

    module _ (f : Field) (e : Ok f ≡ field_in LongTlv s 0) where
      pub entering_is : contents_taken at f.tag (value_of f s) m ≡ entering at s m
      unfolding entering reading_entry contents_taken
      entering_is = rw ok (ap (λ (x : Result Field Cut). and_then (entry_in at s x) (judging (state_in m) at)) e)

      size_is : f.stop ≡ entry_size s
      size_is = sym (ap (λ (x : Field). x.stop) (is_field LongTlv s 0 f (sym e)).1)

      as_size : (o : Answer State) (ns : List ℕ) → told ns ≡ judged_only o → told ns ≡ and_then o (λ _. accepted (entry_size s))
      as_size (accepted t) ns k = absurd (told_no ns tt k)
      as_size (short l n) ns k = told_short ns l n k
      as_size (refused ms) ns k = told_as ns ms k

      passed_size : (o : Answer State) → accepted tt ≡ judged_only o → accepted (entry_size s) ≡ and_then o (λ _. accepted (entry_size s))
      passed_size (accepted t) k = refl
      passed_size (short l n) k = absurd (let z : ◌≡◌ {A = ℕ} 0 1 = cc in let b : ⊥ = omega arith in b)
      passed_size (refused ms) k = absurd (let z : ◌≡◌ {A = ℕ} 0 1 = cc in let b : ⊥ = omega arith in b)

      -- its value, and what was answered of it
      module _ (v m' : List ℕ) (a : Answer (Unit {0})) (ev : v ≡ value_of f s) (t : Taken a m' (contents_taken at f.tag v m) m) where
        left : a ≡ judged_only (entering at s m)
        left = t.0 ∙ ap (λ (x : List ℕ). judged_only (contents_taken at f.tag x m)) ev ∙ ap judged_only entering_is

        memory : m' ≡ left_by (entering at s m) m
        memory = t.1 ∙ ap (λ (x : List ℕ). left_by (contents_taken at f.tag x m) m) ev ∙ ap (λ (x : Answer State). left_by x m) entering_is

        pub entry_refused : (ns : List ℕ) → told ns ≡ a → Entered (told ns) m' at s m
        unfolding entry_taken entry_memory
        entry_refused ns k = (as_size (entering at s m) ns (k ∙ left), memory)

        pub entry_passed : accepted tt ≡ a → Entered (accepted f.stop) m' at s m
        unfolding entry_taken entry_memory
        entry_passed k = (ap accepted size_is ∙ passed_size (entering at s m) (k ∙ left), memory)
