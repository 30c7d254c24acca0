-- Ranges that are apart, as a test and as facts.
-- Assumes nothing.
use Prim.Native.Nat.{ℕ}
use mathlib.Core.Path.{◌≡◌, refl}
use mathlib.Core.Bool.{Bool, true, ◌&&◌}
use mathlib.Core.List.{List, [], ◌∷◌}
use borrow.Author.Tests.{lt-ltb, ltb-true}
use Rattle.header.proofs.Comparing.{both_true}
use Rattle.ranges.specs.Pairs.{ApartBehind, Apart}
use Rattle.plan.specs.Missing.{apart_behind, apart}

pub and_true : (c d : Bool) → c ≡ true → d ≡ true → (c && d) ≡ true
and_true c d p q = rw (p, q)

-- ---- the test says it

behind_says : (e : ℕ) (ps : List (ℕ × ℕ)) → apart_behind e ps ≡ true → ApartBehind e ps
behind_says e [] h = tt
behind_says e (p ∷ ps) h =
    let a = both_true _ _ h in
    let b = both_true _ _ a.0 in
    (ltb-true _ _ b.0, ltb-true _ _ b.1, behind_says p.1 ps a.1)

pub apart_says : (ps : List (ℕ × ℕ)) → apart ps ≡ true → Apart ps
apart_says [] h = tt
apart_says (p ∷ ps) h =
    let a = both_true _ _ h in
    (ltb-true _ _ a.0, behind_says p.1 ps a.1)

behind_said : (e : ℕ) (ps : List (ℕ × ℕ)) → ApartBehind e ps → apart_behind e ps ≡ true
behind_said e [] h = refl
behind_said e (p ∷ ps) h = and_true _ _ (and_true _ _ (lt-ltb _ _ h.0) (lt-ltb _ _ h.1)) (behind_said p.1 ps h.2)

pub apart_said : (ps : List (ℕ × ℕ)) → Apart ps → apart ps ≡ true
apart_said [] h = refl
apart_said (p ∷ ps) h = and_true _ _ (lt-ltb _ _ h.0) (behind_said p.1 ps h.1)
