-- The statements of specs/Demands on the code's own answers, proved: an answer that found ranges went through both readings and every test.
-- Assumes nothing.
use Prim.Native.Nat.{ℕ, ◌+◌, ◌-◌, ◌*◌}
use mathlib.Core.Path.{◌≡◌, refl, sym, ap, subst, ◌∙◌}
use mathlib.Core.Bool.{Bool, true}
use mathlib.Core.List.{List, [], ◌∷◌, ◌++◌}
use lib.ListN.{length, drop}
use lib.Seq.{get_or-drop}
use Rattle.fields.specs.Answer.{Answer, accepted, short, refused, told, and_then, Test, leaves}
use Rattle.fields.specs.BigEndian.{Bytes}
use Rattle.fields.specs.Refusal.{paper}
use Rattle.fields.specs.Staged.{run}
use Rattle.fields.proofs.BigEndian.{bytes_take}
use Rattle.fields.proofs.Judging.{Passed, passed, Went, went, same_accepted, told_no, accepted_leaves}
use Rattle.nak.specs.declared.Nak.{Nak}
use Rattle.nak.specs.Reading.{reading_nak}
use Rattle.nak.specs.Requests.{area_of}
use Rattle.nak.proofs.Demands.{accepted_shows}
use Rattle.ranges.specs.declared.differ.Differences.{Differences}
use Rattle.ranges.specs.Runs.{Run}
use Rattle.ranges.specs.Laying.{flat}
use Rattle.ranges.specs.Transaction.{same_transaction}
use Rattle.ranges.specs.Differing.{differences, Compared, compared, pair_out_of_order, transactions_differ, no_room, comparing_pairs, requests_in, comparing, counted, threes, differing, differ_memory}
use Rattle.ranges.specs.Demands.{DifferIn, FoundTells, RefusedLeaves}
use Rattle.ranges.proofs.Laying.{length_flat}
use Rattle.ranges.proofs.Differences.{area_fits, differences_differ}

-- ---- what was accepted

-- the bytes of a request area are bytes
area_bytes : (s : List ℕ) (n : Nak) → Bytes s → run reading_nak s ≡ accepted n → Bytes (area_of n s)
area_bytes s n h e =
    let a = (accepted_shows s n e).area in
    let g : Bytes (drop n.area s) = λ i. rw get_or-drop (h (n.area + i)) in
    rw a (bytes_take (n.stop - n.area) (drop n.area s) g)

-- two readings, and every test of the pairs
pub record Through (s t : List ℕ) (room : ℕ) (c : Compared) : Type 0 where
  pub nak₁ : Nak
  pub nak₂ : Nak
  pub read₁ : run reading_nak s ≡ accepted nak₁
  pub read₂ : run reading_nak t ≡ accepted nak₂
  pub pairs : accepted c ≡ comparing_pairs (same_transaction nak₁.header nak₂.header) (requests_in nak₁ s) (requests_in nak₂ t) room

pub through : (s t : List ℕ) (room : ℕ) (c : Compared) → accepted c ≡ comparing s t room → Through s t room c
unfolding comparing
through s t room c e =
    let w = went (run reading_nak s)
    (λ m. and_then (run reading_nak t) (λ n. comparing_pairs (same_transaction m.header n.header) (requests_in m s) (requests_in n t) room)) c e in
    let v = went (run reading_nak t) (λ n. comparing_pairs (same_transaction w.mid.header n.header) (requests_in w.mid s) (requests_in n t) room) c
    w.second in
    record {
      nak₁ = w.mid;
      nak₂ = v.mid;
      read₁ = sym w.first;
      read₂ = sym v.first;
      pairs = v.second;
    }

abbrev pub pair_tests : Bool → List (ℕ × ℕ) → List (ℕ × ℕ) → ℕ → List Test
pair_tests same ps qs room = pair_out_of_order 1 ps ∷ pair_out_of_order 2 qs ∷ transactions_differ same ∷ no_room room (differences ps qs) ∷ []

pub pairs_passed : (same : Bool) (ps qs : List (ℕ × ℕ)) (room : ℕ) (c : Compared) → accepted c ≡ comparing_pairs same ps qs room
    → Passed (pair_tests same ps qs room) × (c ≡ compared ps qs)
unfolding comparing_pairs
pairs_passed same ps qs room c e = passed (pair_tests same ps qs room) c (compared ps qs) e

-- ---- what is found

stored_front : (s t lent : List ℕ) (c : Compared) → accepted c ≡ comparing s t (length lent)
    → differ_memory s t lent ≡ flat true c.ranges ++ drop (3 * length c.ranges) lent
unfolding differ_memory
stored_front s t lent c e =
    sym (accepted_leaves (comparing s t (length lent)) threes lent c e) ∙ ap (λ (n : ℕ). flat true c.ranges ++ drop n lent) (length_flat true c.ranges)

found_went : (s t lent : List ℕ) (d : Differences) → accepted d ≡ differing s t (length lent) → Went (comparing s t (length lent)) (λ c. accepted (counted c)) d
unfolding differing
found_went s t lent d e = went (comparing s t (length lent)) (λ c. accepted (counted c)) d e

pub found_tells : FoundTells
found_tells s t lent d hs ht e =
    let w = found_went s t lent d e in
    let c = w.mid in
    let x = through s t (length lent) c w.first in
    let ps = requests_in x.nak₁ s in
    let qs = requests_in x.nak₂ t in
    let is = (pairs_passed (same_transaction x.nak₁.header x.nak₂.header) ps qs (length lent) c x.pairs).1 in
    let told = same_accepted d (counted c) w.second in
    let fits₁ = area_fits x.nak₁.header.file (area_of x.nak₁ s) (area_bytes s x.nak₁ hs x.read₁) in
    let fits₂ = area_fits x.nak₂.header.file (area_of x.nak₂ t) (area_bytes t x.nak₂ ht x.read₂) in
    record {
      nak₁ = x.nak₁;
      nak₂ = x.nak₂;
      read₁ = x.read₁;
      read₂ = x.read₂;
      metadata₁ = ap (λ (y : Differences). y.first) told ∙ ap (λ (y : Compared). y.first) is;
      metadata₂ = ap (λ (y : Differences). y.second) told ∙ ap (λ (y : Compared). y.second) is;
      ranges = c.ranges;
      count = ap (λ (y : Differences). y.ranges) told;
      stored = stored_front s t lent c w.first;
      differ = subst (λ (rs : List Run). DifferIn ps qs rs) (sym (ap (λ (y : Compared). y.ranges) is)) (differences_differ ps qs fits₁ fits₂);
    }

-- ---- what is refused

pub refused_leaves : RefusedLeaves
unfolding differ_memory differing
refused_leaves s t lent r e = go (comparing s t (length lent)) e
  where
    go : (o : Answer Compared) → told (paper r) ≡ and_then o (λ c. accepted (counted c)) → leaves o threes lent ≡ lent
    go (accepted c) k = absurd (told_no (paper r) (counted c) k)
    go (short l n) k = refl
    go (refused ns) k = refl
