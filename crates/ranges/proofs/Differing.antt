-- What the comparison of two NAKs answers at each of its exits, and what it leaves in the lent numbers.
-- Assumes nothing.
use Prim.Native.Nat.{ℕ, ◌/◌, ◌≤◌, ◌<◌}
use mathlib.Core.Path.{◌≡◌, refl, sym, ap, ap₂, ◌∙◌}
use mathlib.Core.Bool.{Bool, true, false}
use mathlib.Core.List.{List, [], ◌∷◌, ◌++◌}
use native.Mathlib.Omega.{arith}
use native.Mathlib.Nat.{div-mul-le_self}
use lib.ListN.{length, drop}
use Rattle.std.specs.Prelude.{Result, Ok, Err, IsErrAnd}
use borrow.Author.Tests.{lt-ltb, le-ltb, eq-eqb, ne_eqb}
use Rattle.fields.specs.Answer.{Answer, accepted, told, and_then, leaves, answer_of}
use Rattle.fields.specs.declared.refusal.Refusal.{Refusal}
use Rattle.fields.proofs.Handed.{handed_on}
use Rattle.fields.specs.Staged.{run}
use Rattle.fields.proofs.Judging.{told_is_refused, refused_then, accepted_then, told_leaves, accepted_leaves}
use Rattle.nak.specs.declared.Nak.{Nak}
use Rattle.nak.specs.Reading.{reading_nak}
use Rattle.ranges.specs.declared.merge.Rule.TheVariants.{Differ}
use Rattle.ranges.specs.declared.differ.Differences.{Differences}
use Rattle.ranges.specs.declared.order.Asked.{Asked}
use Rattle.ranges.specs.Pairs.{Rising}
use Rattle.ranges.specs.Merging.{merged}
use Rattle.ranges.specs.Laying.{flat}
use Rattle.ranges.specs.Order.{disorder}
use Rattle.ranges.specs.Transaction.{same_transaction}
use Rattle.ranges.specs.Differing.{differences, Compared, compared, comparing_pairs, requests_in, comparing, counted, threes, differing, differ_memory}
use Rattle.ranges.specs.Sources.{pairs_in}
use Rattle.ranges.specs.Within.{AsksOrWrong, AsksOrRefused, laid, comparing_read}
use Rattle.ranges.proofs.Laying.{length_flat, laid_all}
use Rattle.ranges.proofs.Ordering.{disorder_none}

-- ---- an answer, and the lent numbers

module _ (o : Answer Compared) (s : List ℕ) where
  abbrev both : Answer Differences → List ℕ → Type 0
  both r s' = record { answered : r ≡ and_then o (λ c. accepted (counted c)); stored : s' ≡ leaves o threes s }

  pub refused_both : (ns : List ℕ) → told ns ≡ o → both (told ns) s
  refused_both ns e = record { answered = refused_then o (λ c. accepted (counted c)) ns e; stored = told_leaves ns o threes s e }

  pub accepted_both : (c : Compared) (d : Differences) (s' : List ℕ) → accepted c ≡ o → d ≡ counted c → s' ≡ threes c ++ drop (length (threes c)) s
      → both (accepted d) s'
  accepted_both c d s' e p q = record {
    answered = ap accepted p ∙ accepted_then o (λ c. accepted (counted c)) c e;
    stored = q ∙ accepted_leaves o threes s c e;
  }

-- ---- the pairs of both

-- the others of a list with no pair out of order rise
pub others_rise : (ps : List (ℕ × ℕ)) (x : Asked) → AsksOrWrong (Ok x) ps → Rising 0 (pairs_in x.others)
others_rise ps x t = rw t.1 (disorder_none ps t.2)

module _ (same : Bool) (ps qs : List (ℕ × ℕ)) (s : List ℕ) where
  abbrev answer : Answer Compared
  answer = comparing_pairs same ps qs (length s)

  first_told : (disorder ps ≡ 0 → ⊥) → told (18 ∷ 1 ∷ disorder ps ∷ []) ≡ answer
  unfolding comparing_pairs
  first_told n = rw (told_is_refused 18 (1 ∷ disorder ps ∷ []) refl, ne_eqb (disorder ps) 0 n)

  pub first_wrong : (r : Result Differences Refusal) (e : Refusal) → IsErrAnd r (λ d. d ≡ e) → AsksOrRefused 1 (Err e) ps → both answer s (answer_of r) s
  first_wrong r e h n = rw (handed_on r e h, n.0) (refused_both answer s (18 ∷ 1 ∷ disorder ps ∷ []) (first_told n.1))

  module _ (x : Asked) (first : AsksOrWrong (Ok x) ps) where
    second_told : (disorder qs ≡ 0 → ⊥) → told (18 ∷ 2 ∷ disorder qs ∷ []) ≡ answer
    unfolding comparing_pairs
    second_told n = rw (told_is_refused 18 (2 ∷ disorder qs ∷ []) refl, eq-eqb (disorder ps) 0 first.2, ne_eqb (disorder qs) 0 n)

    pub second_wrong : (r : Result Differences Refusal) (e : Refusal) → IsErrAnd r (λ d. d ≡ e) → AsksOrRefused 2 (Err e) qs
        → both answer s (answer_of r) s
    second_wrong r e h n = rw (handed_on r e h, n.0) (refused_both answer s (18 ∷ 2 ∷ disorder qs ∷ []) (second_told n.1))

    module _ (y : Asked) (second : AsksOrWrong (Ok y) qs) where
      differ_told : same ≡ false → told (19 ∷ []) ≡ answer
      unfolding comparing_pairs
      differ_told n = rw (told_is_refused 19 [] refl, eq-eqb (disorder ps) 0 first.2, eq-eqb (disorder qs) 0 second.2, n)

      pub not_one_transaction : same ≡ false → both answer s (told (19 ∷ [])) s
      not_one_transaction n = refused_both answer s (19 ∷ []) (differ_told n)

      module _ (one : same ≡ true) (n : ℕ) (few : n ≡ length (merged Differ (pairs_in x.others) (pairs_in y.others))) where
        as_differences : merged Differ (pairs_in x.others) (pairs_in y.others) ≡ differences ps qs
        unfolding differences
        as_differences = ap₂ (merged Differ) first.1 second.1

        many : n ≡ length (differences ps qs)
        many = few ∙ ap length as_differences

        room_told : length s / 3 < length (differences ps qs) → told (20 ∷ []) ≡ answer
        unfolding comparing_pairs
        room_told h =
            rw
            (told_is_refused 20 [] refl, eq-eqb (disorder ps) 0 first.2, eq-eqb (disorder qs) 0 second.2, one, lt-ltb (length s / 3) (length (differences ps qs)) h)

        pub too_many_lem : length s / 3 < n → both answer s (told (20 ∷ [])) s
        too_many_lem h = refused_both answer s (20 ∷ []) (room_told (rw many at h))

        found_told : length (differences ps qs) ≤ length s / 3 → accepted (compared ps qs) ≡ answer
        unfolding comparing_pairs
        found_told h = rw (eq-eqb (disorder ps) 0 first.2, eq-eqb (disorder qs) 0 second.2, one, le-ltb (length s / 3) (length (differences ps qs)) h)

        pub all_stored : (s' : List ℕ) → n ≤ length s / 3 → s' ≡ laid true s 0 (merged Differ (pairs_in x.others) (pairs_in y.others))
            → both answer s (accepted (record { first = x.metadata; second = y.metadata; ranges = n })) s'
        all_stored s' h m =
            let g : length (differences ps qs) ≤ length s / 3 = rw many at h in
            accepted_both answer s (compared ps qs) (record { first = x.metadata; second = y.metadata; ranges = n }) s' (found_told g) (rw (first.0, second.0, many))
            (m
            ∙ ap (laid true s 0) as_differences
            ∙ laid_all true s (differences ps qs) (omega (arith, div-mul-le_self (length s) 3))
            ∙ ap (λ (x : ℕ). flat true (differences ps qs) ++ drop x s) (sym (length_flat true (differences ps qs))))

-- ---- the readings

module _ (m : Nak) (s t lent : List ℕ) where
  pub second_refused : (ns : List ℕ) → told ns ≡ run reading_nak t → both (comparing_read m s t (length lent)) lent (told ns) lent
  unfolding comparing_read
  second_refused ns e =
      refused_both (comparing_read m s t (length lent)) lent ns
      (refused_then (run reading_nak t) (λ n. comparing_pairs (same_transaction m.header n.header) (requests_in m s) (requests_in n t) (length lent)) ns e)

  -- behind both readings the pairs decide
  module _ (n : Nak) (e : accepted n ≡ run reading_nak t) (same : Bool) (ps qs : List (ℕ × ℕ)) (one : same ≡ same_transaction m.header n.header) (p : ps ≡ requests_in m s) (q : qs ≡ requests_in n t) where
    are_read : comparing_pairs same ps qs (length lent) ≡ comparing_read m s t (length lent)
    unfolding comparing_read
    are_read =
        rw (one, p, q)
        (accepted_then (run reading_nak t) (λ n. comparing_pairs (same_transaction m.header n.header) (requests_in m s) (requests_in n t) (length lent)) n e)

    pub second_read : (r : Answer Differences) (lent' : List ℕ)
        → both (comparing_pairs same ps qs (length lent)) lent r lent'
        → both (comparing_read m s t (length lent)) lent r lent'
    second_read r lent' h = rw are_read at h

module _ (s t lent : List ℕ) where
  abbrev Answers : Answer Differences → List ℕ → Type 0
  Answers r lent' = record { answered : r ≡ differing s t (length lent); stored : lent' ≡ differ_memory s t lent }

  whole : (o : Answer Compared) → o ≡ comparing s t (length lent) → (r : Answer Differences) (lent' : List ℕ) → both o lent r lent'
      → Answers r lent'
  unfolding differing differ_memory
  whole o e r lent' h = rw e at h

  pub first_refused : (ns : List ℕ) → told ns ≡ run reading_nak s → Answers (told ns) lent
  unfolding comparing
  first_refused ns e =
      whole (comparing s t (length lent)) refl (told ns) lent
      (refused_both (comparing s t (length lent)) lent ns
      (refused_then (run reading_nak s)
      (λ m. and_then (run reading_nak t) (λ n. comparing_pairs (same_transaction m.header n.header) (requests_in m s) (requests_in n t) (length lent))) ns e))

  pub first_read : (m : Nak) → accepted m ≡ run reading_nak s → (r : Answer Differences) (lent' : List ℕ) → both (comparing_read m s t (length lent)) lent r lent'
      → Answers r lent'
  unfolding comparing comparing_read
  first_read m e r lent' h =
      whole (comparing_read m s t (length lent))
      (accepted_then (run reading_nak s)
      (λ m. and_then (run reading_nak t) (λ n. comparing_pairs (same_transaction m.header n.header) (requests_in m s) (requests_in n t) (length lent))) m e) r lent' h
