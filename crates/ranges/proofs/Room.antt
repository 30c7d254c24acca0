-- The ranges of two rising lists never outnumber the pairs of both (request C-10).
-- A range begins where a side changes and ends where one does; where one range ends and another begins at one place, both sides change there.
-- A side changes at most twice for each of its pairs. Assumes nothing.
use Prim.Native.Nat.{ℕ, zero, suc, ◌+◌, ◌-◌, ◌*◌, ◌/◌, ◌≤◌, ◌<◌}
use mathlib.Core.Path.{◌≡◌, refl, sym, ap, ◌∙◌}
use mathlib.Core.Bool.{Bool, true, false, not}
use mathlib.Core.List.{List, [], ◌∷◌}
use mathlib.Core.Logic.{⊎_elim}
use native.Mathlib.Omega.{arith}
use native.Mathlib.Nat.{le-div_iff_mul-le}
use lib.Dec.{leb, ltb, eqb, lit≤, lit<}
use lib.ListN.{length, get_or}
use borrow.Author.Tests.{le-leb, lt-leb, le-ltb, eqb-true, not-false}
use Rattle.fields.specs.Answer.{Answer, accepted, short, refused, told, and_then}
use Rattle.std.specs.Prelude.{if◌then◌else◌}
use Rattle.fields.specs.Staged.{run}
use Rattle.fields.proofs.Judging.{went, same_accepted, told_no, told_is_refused}
use Rattle.nak.specs.declared.Nak.{Nak}
use Rattle.nak.specs.Reading.{reading_nak}
use Rattle.nak.proofs.Demands.{accepted_shows}
use Rattle.ranges.specs.declared.differ.Differences.{Differences}
use Rattle.ranges.specs.declared.merge.Rule.{Rule}
use Rattle.ranges.specs.declared.merge.Rule.TheVariants.{Differ, Either, Without}
use Rattle.ranges.specs.Runs.{Run, in_front, runs}
use Rattle.ranges.specs.Pairs.{Rising}
use Rattle.ranges.specs.Merging.{largest, label_of, labelling, merged}
use Rattle.ranges.specs.Within.{edge, begun, passed, closing}
use Rattle.ranges.specs.Order.{metadata, others, disorder}
use Rattle.ranges.specs.Transaction.{same_transaction}
use Rattle.ranges.specs.Differing.{differences, Compared, compared, comparing_pairs, requests_in, comparing, counted, differing}
use Rattle.ranges.specs.Room.{NeverOutnumber, NeverNoRoom, EnoughByCount}
use Rattle.ranges.proofs.Tests.{eq?, lt?}
use Rattle.ranges.proofs.Runs.{in_front_none, in_front_twice, in_front_unlike, in_front_last, runs_none, runs_apart}
use Rattle.ranges.proofs.Sides.{Ahead, ahead_start, ahead_passed, edge_ahead, edge_in, edge_out, passed_end, passed_not, both_stretch}
use Rattle.ranges.proofs.Laying.{closing_none, closing_most, length_closed}
use Rattle.ranges.proofs.Ordering.{disorder_none}
use Rattle.ranges.proofs.Demands.{pairs_passed}

-- whether a side changes, and whether it asks: 0 or 1
abbrev differs : Bool → Bool → ℕ
differs true true = 0
differs true false = 1
differs false true = 1
differs false false = 0

abbrev bit : Bool → ℕ
bit true = 1
bit false = 0

-- the changes that are left of a side, which asked for the byte before this place, or not
abbrev changes_left : Bool → ℕ → List (ℕ × ℕ) → ℕ
changes_left c at ps = differs c (begun at ps) + (2 * length ps - bit (begun at ps))

-- ---- one side

-- a change and what it leaves
changes_rest : (c : Bool) (at : ℕ) (ps : List (ℕ × ℕ)) → changes_left c at ps ≤ bit c + 2 * length ps
changes_rest true at [] = lit≤ tt
changes_rest false at [] = lit≤ tt
changes_rest c at (p ∷ ps) = go c (leb p.0 at)
  where
    go : (c d : Bool) → differs c d + (2 * suc (length ps) - bit d) ≤ bit c + 2 * suc (length ps)
    go true true = omega arith
    go true false = omega arith
    go false true = omega arith
    go false false = omega arith

module _ (all : List (ℕ × ℕ)) (at : ℕ) where
  -- behind a stretch there are no more changes left than before it, but for the one at its start
  side_pays : (ps : List (ℕ × ℕ)) (to : ℕ) → Ahead all at ps → at < to → to ≤ edge at ps
      → changes_left (begun at ps) to (passed to ps) ≤ 2 * length ps - bit (begun at ps)
  side_pays [] to h k l = lit≤ tt
  side_pays (p ∷ ps) to h k l = ⊎_elim (λ u. outside u (edge_out at p ps u)) (λ u. inner u (edge_in at p ps u)) (lt? at p.0)
    where
      -- not yet in the pair
      outside : at < p.0 → edge at (p ∷ ps) ≡ p.0 → changes_left (leb p.0 at) to (passed to (p ∷ ps)) ≤ 2 * suc (length ps) - bit (leb p.0 at)
      outside u e =
          rw (lt-leb p.0 at u, passed_not to p ps (λ v. absurd (let b : ⊥ = omega (arith, h.next.0) in b)))
          (⊎_elim (λ x. rw (lt-leb p.0 to x) (omega arith)) (λ x. rw (le-leb p.0 to x) (omega arith)) (lt? to p.0))

      -- in the pair
      inner : p.0 ≤ at → edge at (p ∷ ps) ≡ p.1 → changes_left (leb p.0 at) to (passed to (p ∷ ps)) ≤ 2 * suc (length ps) - bit (leb p.0 at)
      inner u e =
          rw (le-leb p.0 at u)
          (⊎_elim
          (λ v. rw (passed_end to p ps v) (let r = changes_rest true to ps in omega arith))
          (λ v. rw (passed_not to p ps v, le-leb p.0 to (let b : p.0 ≤ to = omega arith in b)) (omega arith))
          (eq? p.1 to))

-- ---- both sides

-- a change of label is paid by the sides' changes: two ranges that touch want both
changes_pay : (rule : Rule) (c₁ c₂ d₁ d₂ : Bool) → (label_of rule c₁ c₂ ≡ label_of rule d₁ d₂ → ⊥)
    → closing (label_of rule c₁ c₂) + closing (label_of rule d₁ d₂) ≤ differs c₁ d₁ + differs c₂ d₂
unfolding closing
changes_pay Differ true true true true h = absurd (h refl)
changes_pay Differ true true true false h = lit≤ tt
changes_pay Differ true true false true h = lit≤ tt
changes_pay Differ true true false false h = absurd (h refl)
changes_pay Differ true false true true h = lit≤ tt
changes_pay Differ true false true false h = absurd (h refl)
changes_pay Differ true false false true h = lit≤ tt
changes_pay Differ true false false false h = lit≤ tt
changes_pay Differ false true true true h = lit≤ tt
changes_pay Differ false true true false h = lit≤ tt
changes_pay Differ false true false true h = absurd (h refl)
changes_pay Differ false true false false h = lit≤ tt
changes_pay Differ false false true true h = absurd (h refl)
changes_pay Differ false false true false h = lit≤ tt
changes_pay Differ false false false true h = lit≤ tt
changes_pay Differ false false false false h = absurd (h refl)
changes_pay Either true true true true h = absurd (h refl)
changes_pay Either true true true false h = absurd (h refl)
changes_pay Either true true false true h = absurd (h refl)
changes_pay Either true true false false h = lit≤ tt
changes_pay Either true false true true h = absurd (h refl)
changes_pay Either true false true false h = absurd (h refl)
changes_pay Either true false false true h = absurd (h refl)
changes_pay Either true false false false h = lit≤ tt
changes_pay Either false true true true h = absurd (h refl)
changes_pay Either false true true false h = absurd (h refl)
changes_pay Either false true false true h = absurd (h refl)
changes_pay Either false true false false h = lit≤ tt
changes_pay Either false false true true h = lit≤ tt
changes_pay Either false false true false h = lit≤ tt
changes_pay Either false false false true h = lit≤ tt
changes_pay Either false false false false h = absurd (h refl)
changes_pay Without true true true true h = absurd (h refl)
changes_pay Without true true true false h = lit≤ tt
changes_pay Without true true false true h = absurd (h refl)
changes_pay Without true true false false h = absurd (h refl)
changes_pay Without true false true true h = lit≤ tt
changes_pay Without true false true false h = absurd (h refl)
changes_pay Without true false false true h = lit≤ tt
changes_pay Without true false false false h = lit≤ tt
changes_pay Without false true true true h = absurd (h refl)
changes_pay Without false true true false h = lit≤ tt
changes_pay Without false true false true h = absurd (h refl)
changes_pay Without false true false false h = absurd (h refl)
changes_pay Without false false true true h = absurd (h refl)
changes_pay Without false false true false h = lit≤ tt
changes_pay Without false false false true h = absurd (h refl)
changes_pay Without false false false false h = absurd (h refl)

last_pays : (s at k : ℕ) → 2 * length (in_front s at k []) ≤ closing k + 1
last_pays s at k =
    let e = ap length (in_front_last s at k) ∙ length_closed s at k [] in
    let m = closing_most k in
    omega arith

module _ (rule : Rule) (ps qs : List (ℕ × ℕ)) where
  -- one stretch, and what is known of the ranges behind it
  stretch_pays : (at to s k l x₁ x₂ y₁ y₂ : ℕ) (c₁ c₂ d₁ d₂ : Bool) → at < to
      → runs (labelling rule ps qs) at (largest - at) ≡ in_front at to l (runs (labelling rule ps qs) to (largest - to))
      → k ≡ label_of rule c₁ c₂ → l ≡ label_of rule d₁ d₂ → x₁ ≤ y₁ → x₂ ≤ y₂
      → ((s' : ℕ) → 2 * length (in_front s' to l (runs (labelling rule ps qs) to (largest - to))) ≤ closing l + x₁ + x₂ + 1)
      → 2 * length (in_front s at k (runs (labelling rule ps qs) at (largest - at))) ≤ closing k + (differs c₁ d₁ + y₁) + (differs c₂ d₂ + y₂) + 1
  stretch_pays at to s k l x₁ x₂ y₁ y₂ c₁ c₂ d₁ d₂ a e ek el p q h =
      ⊎_elim
      (λ u.
      let same : in_front s at k (in_front at to l rest) ≡ in_front s to l rest = ap (λ (x : ℕ). in_front s at x (in_front at to l rest)) u
      ∙ in_front_twice s at to l rest in
      let n = ap length (ap (in_front s at k) e ∙ same) in
      let c = ap closing u in
      let b = h s in
      omega arith)
      (λ u.
      let n = ap length (ap (in_front s at k) e ∙ in_front_unlike s at to k l rest u a (runs_apart (labelling rule ps qs) to (largest - to)))
      ∙ length_closed s at k (in_front at to l rest) in
      let b = h at in
      let c : closing k + closing l ≤ differs c₁ d₁ + differs c₂ d₂ = rw (ek, el) (changes_pay rule c₁ c₂ d₁ d₂ (λ z. u (ek ∙ z ∙ sym el))) in
      omega arith)
      (eq? k l)
    where
      rest : List Run
      rest = runs (labelling rule ps qs) to (largest - to)

  ends_pay : (at s k x : ℕ) → largest ≤ at → 2 * length (in_front s at k (runs (labelling rule ps qs) at (largest - at))) ≤ closing k + x + 1
  ends_pay at s k x h =
      let z : largest - at ≡ 0 = omega arith in
      rw (z, runs_none (labelling rule ps qs) at) (omega (arith, last_pays s at k))

  module _ (l₁ l₂ : List (ℕ × ℕ)) (at s k : ℕ) (c₁ c₂ : Bool) (fuel : ℕ) (f : largest - at ≤ suc fuel) (h₁ : Ahead ps at l₁) (h₂ : Ahead qs at l₂) (ek : k ≡ label_of rule c₁ c₂) where
    module _ (more : (m₁ m₂ : List (ℕ × ℕ)) (to s' l : ℕ) (d₁ d₂ : Bool) → largest - to ≤ fuel → Ahead ps to m₁ → Ahead qs to m₂ → l ≡ label_of rule d₁ d₂
        → 2 * length (in_front s' to l (runs (labelling rule ps qs) to (largest - to))) ≤ closing l + changes_left d₁ to m₁ + changes_left d₂ to m₂ + 1) where
      stretch_to : at < largest → (to : ℕ) → to ≤ edge at l₁ → to ≤ edge at l₂ → at < to
          → 2 * length (in_front s at k (runs (labelling rule ps qs) at (largest - at))) ≤ closing k + changes_left c₁ at l₁ + changes_left c₂ at l₂ + 1
      stretch_to inside to k₁ k₂ a =
          ⊎_elim
          (λ u.
          stretch_pays at to s k l (changes_left d₁ to (passed to l₁)) (changes_left d₂ to (passed to l₂)) (2 * length l₁ - bit d₁)
          (2 * length l₂ - bit d₂) c₁ c₂ d₁ d₂ a
          (both_stretch rule ps qs at l₁ l₂ to l h₁ h₂ k₁ k₂ a (omega arith) refl) ek refl
          (side_pays ps at l₁ to h₁ a k₁) (side_pays qs at l₂ to h₂ a k₂)
          (λ s'. more (passed to l₁) (passed to l₂) to s' l d₁ d₂ (omega arith) (ahead_passed ps at l₁ to h₁ a k₁) (ahead_passed qs at l₂ to h₂ a k₂) refl))
          (λ u.
          stretch_pays at largest s k l 0 0 (2 * length l₁ - bit d₁) (2 * length l₂ - bit d₂) c₁ c₂ d₁ d₂ inside
          (both_stretch rule ps qs at l₁ l₂ largest l h₁ h₂ (omega arith) (omega arith) inside (omega arith) refl) ek refl
          (omega arith) (omega arith)
          (λ s'. let b = ends_pay largest s' l (0 + 0) (omega arith) in omega arith))
          (lt? to largest)
        where
          d₁ : Bool
          d₁ = begun at l₁

          d₂ : Bool
          d₂ = begun at l₂

          l : ℕ
          l = label_of rule d₁ d₂

      one_step : 2 * length (in_front s at k (runs (labelling rule ps qs) at (largest - at))) ≤ closing k + changes_left c₁ at l₁ + changes_left c₂ at l₂ + 1
      one_step =
          ⊎_elim
          (λ inside.
          let a₁ = edge_ahead ps at l₁ inside h₁ in
          let a₂ = edge_ahead qs at l₂ inside h₂ in
          ⊎_elim (λ u. stretch_to inside (edge at l₂) (omega arith) (omega arith) a₂)
          (λ u. stretch_to inside (edge at l₁) (omega arith) u a₁) (lt? (edge at l₂) (edge at l₁)))
          (λ u. let b = ends_pay at s k (changes_left c₁ at l₁ + changes_left c₂ at l₂) u in omega arith)
          (lt? at largest)

  ranges_pay : (fuel : ℕ) (l₁ l₂ : List (ℕ × ℕ)) (at s k : ℕ) (c₁ c₂ : Bool) → largest - at ≤ fuel → Ahead ps at l₁ → Ahead qs at l₂ → k ≡ label_of rule c₁ c₂
      → 2 * length (in_front s at k (runs (labelling rule ps qs) at (largest - at))) ≤ closing k + changes_left c₁ at l₁ + changes_left c₂ at l₂ + 1
  ranges_pay zero l₁ l₂ at s k c₁ c₂ f h₁ h₂ ek =
      let b = ends_pay at s k (changes_left c₁ at l₁ + changes_left c₂ at l₂) (omega arith) in
      omega arith
  ranges_pay (suc fuel) l₁ l₂ at s k c₁ c₂ f h₁ h₂ ek = one_step l₁ l₂ at s k c₁ c₂ fuel f h₁ h₂ ek (ranges_pay fuel)

-- ---- the promise

labels_none : (rule : Rule) → 0 ≡ label_of rule false false
labels_none Differ = refl
labels_none Either = refl
labels_none Without = refl

-- 'the ranges it writes never outnumber the requests' of both
pub merged_most : (rule : Rule) (ps qs : List (ℕ × ℕ)) → Rising 0 ps → Rising 0 qs → length (merged rule ps qs) ≤ length ps + length qs
unfolding merged
merged_most rule ps qs h₁ h₂ =
    let b = ranges_pay rule ps qs largest ps qs 0 0 0 false false (omega arith) (ahead_start ps h₁) (ahead_start qs h₂) (labels_none rule) in
    let e = ap length (in_front_none 0 0 0 (runs (labelling rule ps qs) 0 largest) refl) in
    let z = closing_none 0 refl in
    omega (arith, changes_rest false 0 ps, changes_rest false 0 qs)

-- ---- the comparison

-- of pairs that rise, the metadata pair left out of each
differences_most : (ps qs : List (ℕ × ℕ)) → disorder ps ≡ 0 → disorder qs ≡ 0 → length (differences ps qs) ≤ length (others ps) + length (others qs)
unfolding differences
differences_most ps qs h k = merged_most Differ (others ps) (others qs) (disorder_none ps h) (disorder_none qs k)

-- with so many threes lent the test for room does not hold
room_passes : (ps qs : List (ℕ × ℕ)) (room : ℕ) → disorder ps ≡ 0 → disorder qs ≡ 0 → 3 * (length (others ps) + length (others qs)) ≤ room
    → ltb (room / 3) (length (differences ps qs)) ≡ false
room_passes ps qs room h k r =
    let m = differences_most ps qs h k in
    le-ltb _ _ ((le-div_iff_mul-le (lit< tt)).1 (let n : length (differences ps qs) * 3 ≤ room = omega arith in n))

-- and so the pairs are not refused with 20
pairs_have_room : (same : Bool) (ps qs : List (ℕ × ℕ)) (room : ℕ) → 3 * (length (others ps) + length (others qs)) ≤ room
    → comparing_pairs same ps qs room ≡ refused (20 ∷ []) → ⊥
unfolding comparing_pairs
pairs_have_room same ps qs room r e =
    go (not (eqb (disorder ps) 0)) (not (eqb (disorder qs) 0)) (not same) (ltb (room / 3) (length (differences ps qs))) refl refl refl e
  where
    number : List ℕ → ℕ
    number ns = get_or ns 0 0

    go : (a b c d : Bool) → not (eqb (disorder ps) 0) ≡ a → not (eqb (disorder qs) 0) ≡ b → ltb (room / 3) (length (differences ps qs)) ≡ d
        → ◌≡◌ {A = Answer Compared}
        (if a then refused (18 ∷ 1 ∷ disorder ps ∷ []) else if b then refused (18 ∷ 2 ∷ disorder qs ∷ []) else if c then refused (19 ∷ []) else if d then refused
        (20 ∷ []) else accepted (compared ps qs))
        (refused (20 ∷ []))
        → ⊥
    go true b c d p q s k = let z : ◌≡◌ {A = List ℕ} (18 ∷ 1 ∷ disorder ps ∷ []) (20 ∷ []) = cc in let n = ap number z in omega arith
    go false true c d p q s k = let z : ◌≡◌ {A = List ℕ} (18 ∷ 2 ∷ disorder qs ∷ []) (20 ∷ []) = cc in let n = ap number z in omega arith
    go false false true d p q s k = let z : ◌≡◌ {A = List ℕ} (19 ∷ []) (20 ∷ []) = cc in let n = ap number z in omega arith
    go false false false true p q s k =
        let m : true ≡ false = sym s ∙ room_passes ps qs room (eqb-true _ _ (not-false _ p)) (eqb-true _ _ (not-false _ q)) r in
        let z : ◌≡◌ {A = ℕ} 0 1 = cc in
        omega arith
    go false false false false p q s k = let z : ◌≡◌ {A = ℕ} 0 1 = cc in omega arith

-- ---- the code's own answers

-- of two NAKs that were read the pairs decide
both_read : (s t : List ℕ) (room : ℕ) (m n : Nak) → run reading_nak s ≡ accepted m → run reading_nak t ≡ accepted n
    → comparing s t room ≡ comparing_pairs (same_transaction m.header n.header) (requests_in m s) (requests_in n t) room
unfolding comparing
both_read s t room m n p q = rw (p, q)

pub never_outnumber : NeverOutnumber
unfolding differing
never_outnumber s t lent m n d p q e =
    let ps = requests_in m s in
    let qs = requests_in n t in
    let w = went (comparing s t (length lent)) (λ c. accepted (counted c)) d e in
    let told = same_accepted d (counted w.mid) w.second in
    let x = pairs_passed (same_transaction m.header n.header) ps qs (length lent) w.mid (w.first ∙ both_read s t (length lent) m n p q) in
    let k : d.ranges ≡ length (differences ps qs) = ap (λ (y : Differences). y.ranges) told ∙ ap (λ (y : Compared). length y.ranges) x.1 in
    rw k (differences_most ps qs (eqb-true _ _ (not-false _ x.0.0)) (eqb-true _ _ (not-false _ x.0.1.0)))

-- a refusal with 20 is one of the pairs
twenty : (o : Answer Compared) → told (20 ∷ []) ≡ and_then o (λ c. accepted (counted c)) → o ≡ refused (20 ∷ [])
twenty (accepted c) e = absurd (told_no (20 ∷ []) (counted c) e)
twenty (short l n) e =
    absurd
    (let k : ◌≡◌ {A = Answer Differences} (refused (20 ∷ [])) (short l n) = sym (told_is_refused 20 [] refl) ∙ e in let z : ◌≡◌ {A = ℕ} 0 1 = cc in let b : ⊥ = omega arith in b)
twenty (refused ns) e =
    let k : ◌≡◌ {A = Answer Differences} (refused (20 ∷ [])) (refused ns) = sym (told_is_refused 20 [] refl) ∙ e in
    let z : ◌≡◌ {A = List ℕ} (20 ∷ []) ns = cc in ap refused (sym z)

pub never_no_room : NeverNoRoom
unfolding differing
never_no_room s t lent m n p q r e =
    pairs_have_room (same_transaction m.header n.header) (requests_in m s) (requests_in n t) (length lent) r
    (sym (both_read s t (length lent) m n p q) ∙ twenty (comparing s t (length lent)) e)

others_fewer : (ps : List (ℕ × ℕ)) → length (others ps) ≤ length ps
others_fewer [] = omega arith
others_fewer (p ∷ ps) = go (metadata (p ∷ ps))
  where
    go : (c : Bool) → length (if c then ps else p ∷ ps) ≤ suc (length ps)
    go true = omega arith
    go false = omega arith

pub enough_by_count : EnoughByCount
enough_by_count s t lent m n p q r e =
    let a = (accepted_shows s m p).count in
    let b = (accepted_shows t n q).count in
    let c = others_fewer (requests_in m s) in
    let d = others_fewer (requests_in n t) in
    never_no_room s t lent m n p q (omega arith) e
