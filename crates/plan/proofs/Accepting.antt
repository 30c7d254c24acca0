-- Whether a plan is accepted, as the check finds it out: the code asks for the gaps where the document asks for apart and exact.
-- Assumes nothing.
use Prim.Native.Nat.{ℕ, ◌%◌, ◌≤◌}
use mathlib.Core.Path.{◌≡◌, refl, ap}
use mathlib.Core.Bool.{Bool, true, false, ◌&&◌}
use mathlib.Core.List.{List}
use lib.Dec.{eqb}
use lib.ListN.{length}
use borrow.Author.Tests.{eq-eqb}
use Rattle.header.proofs.Comparing.{both_true}
use Rattle.ranges.specs.Pairs.{twos}
use Rattle.ranges.specs.Merging.{largest}
use Rattle.plan.specs.Missing.{apart}
use Rattle.plan.specs.Plans.{Plan, threes, each_fits, each_within, exactly, scopes_join, accepts, accepts_numbers}
use Rattle.plan.specs.Theorems.{Numbers64}
use Rattle.plan.specs.Gaps.{gaps, same_pairs}
use Rattle.plan.proofs.Apart.{apart_says}
use Rattle.plan.proofs.Exact.{apart_exactly}

-- the document's order, and the code's
regroup : (f a s x j g : Bool) → (a && x) ≡ g → (f && a && s && x && j) ≡ (f && (s && (g && j)))
regroup false a s x j g e = refl
regroup true false s x j g e = bottom s
  where
    bottom : (s : Bool) → false ≡ (s && (g && j))
    bottom true = ap (λ (c : Bool). c && j) e
    bottom false = refl
regroup true true false x j g e = refl
regroup true true true x j g e = ap (λ (c : Bool). c && j) e

-- tests one behind the other, and as they are grouped in the code
pub chain : (a b c d e : Bool) → (a && (b && (c && (d && e)))) ≡ ((((a && b) && c) && d) && e)
chain false b c d e = refl
chain true false c d e = refl
chain true true false d e = refl
chain true true true d e = refl

module _ (most : ℕ) (received : List ℕ) (start end : ℕ) (requests naks : List ℕ) (a : apart (twos received) ≡ true) (small : end ≤ largest) (bounded : Numbers64 requests) where
  pub accept_is : accepts_numbers most received start end requests naks
      ≡
      (eqb (length naks % 3) 0 &&
      (each_fits most (threes naks) &&
      (each_within (threes naks) (twos requests) && (same_pairs (twos requests) (gaps start end (twos received)) && scopes_join start end (threes naks)))))
  unfolding accepts accepts_numbers
  accept_is =
      ap (λ (c : Bool). eqb (length naks % 3) 0 && c)
      (regroup (each_fits most (threes naks)) (apart (twos requests)) (each_within (threes naks) (twos requests))
      (exactly (twos received) start end (twos requests)) (scopes_join start end (threes naks))
      (same_pairs (twos requests) (gaps start end (twos received)))
      (apart_exactly (twos received) start end (apart_says (twos received) a) small requests bounded))

-- ---- the clauses of an accepted plan, apart

pub record Clauses (most : ℕ) (received : List (ℕ × ℕ)) (start end : ℕ) (p : Plan) : Type 0 where
  pub fit : each_fits most p.naks ≡ true
  pub apart_are : apart p.requests ≡ true
  pub within : each_within p.naks p.requests ≡ true
  pub exact : exactly received start end p.requests ≡ true
  pub join : scopes_join start end p.naks ≡ true

module _ (most : ℕ) (received : List (ℕ × ℕ)) (start end : ℕ) (p : Plan) where
  pub clauses : accepts most received start end p ≡ true → Clauses most received start end p
  unfolding accepts
  clauses e =
      let a = both_true
      (each_fits most p.naks && apart p.requests && each_within p.naks p.requests && exactly received start end p.requests)
      (scopes_join start end p.naks) e in
      let b = both_true (each_fits most p.naks && apart p.requests && each_within p.naks p.requests)
      (exactly received start end p.requests) a.0 in
      let c = both_true (each_fits most p.naks && apart p.requests) (each_within p.naks p.requests) b.0 in
      let d = both_true (each_fits most p.naks) (apart p.requests) c.0 in
      record { fit = d.0; apart_are = d.1; within = c.1; exact = b.1; join = a.1 }

  pub all_clauses : Clauses most received start end p → accepts most received start end p ≡ true
  unfolding accepts
  all_clauses c = rw (c.fit, c.apart_are, c.within, c.exact, c.join)

-- and in numbers
module _ (most : ℕ) (received : List ℕ) (start end : ℕ) (requests naks : List ℕ) where
  abbrev plan_in : Plan
  plan_in = record { requests = twos requests; naks = threes naks }

  pub numbers_clauses : accepts_numbers most received start end requests naks ≡ true → Clauses most (twos received) start end plan_in
  unfolding accepts_numbers
  numbers_clauses e = clauses most (twos received) start end plan_in (both_true (eqb (length naks % 3) 0) (accepts most (twos received) start end plan_in) e).1

  pub clauses_numbers : length naks % 3 ≡ 0 → Clauses most (twos received) start end plan_in → accepts_numbers most received start end requests naks ≡ true
  unfolding accepts_numbers
  clauses_numbers w c = rw (eq-eqb (length naks % 3) 0 w, all_clauses most (twos received) start end plan_in c)
