-- Directive codes: what each arm of the `match` gives, and what each kind says of its code.
-- Assumes nothing.
use Prim.Native.Nat.{ℕ, ◌≤◌, ◌<◌}
use mathlib.Core.Path.{◌≡◌, refl}
use mathlib.Core.Bool.{Bool, true, false}
use native.Mathlib.Omega.{arith}
use lib.Dec.{eqb}
use borrow.Author.Tests.{le-leb, lt-leb, eq-eqb, ne_eqb}
use Rattle.std.specs.Prelude.{if◌then◌else◌}
use Rattle.header.specs.declared.code.DirectiveKind.TheVariants.{Own, Known, Unknown}
use Rattle.header.specs.Code.{is_known, kind_of}

-- ---- the arms

module _ (c : ℕ) where
  pub known_twelve : c ≡ 12 → is_known c ≡ true
  unfolding is_known
  known_twelve e = rw e

  pub known_range : 4 ≤ c → c < 10 → is_known c ≡ true
  unfolding is_known
  known_range l m = rw (le-leb 4 c l, le-leb c 9 (omega arith))

  pub unknown_low : c < 4 → is_known c ≡ false
  unfolding is_known
  unknown_low l = rw (lt-leb 4 c l, ne_eqb c 12 (omega arith))

  pub unknown_high : 10 ≤ c → (c ≡ 12 → ⊥) → is_known c ≡ false
  unfolding is_known
  unknown_high l n = rw (le-leb 4 c (omega arith), lt-leb c 9 (omega arith), ne_eqb c 12 n)

  module _ (own : ℕ) where
    pub own_code : is_known c ≡ true → c ≡ own → Own ≡ kind_of own c
    unfolding kind_of
    own_code k e = rw (k, eq-eqb _ _ e)

    pub known_code : is_known c ≡ true → (c ≡ own → ⊥) → Known ≡ kind_of own c
    unfolding kind_of
    known_code k n = rw (k, ne_eqb _ _ n)

    pub unknown_code : is_known c ≡ false → Unknown ≡ kind_of own c
    unfolding kind_of
    unknown_code k = rw k

-- ---- the kinds

no : {X : Type 0} → ◌≡◌ {A = ℕ} 0 1 → X
no z = absurd (omega arith)

module _ (own c : ℕ) where
  pub unknown_says : Unknown ≡ kind_of own c → is_known c ≡ false
  unfolding kind_of
  unknown_says e = go (eqb c own) (is_known c) e
    where
      go : (a b : Bool) → Unknown ≡ (if b then (if a then Own else Known) else Unknown) → b ≡ false
      go a false d = refl
      go true true d = no cc
      go false true d = no cc

  pub known_says : Known ≡ kind_of own c → (is_known c ≡ true) × (eqb c own ≡ false)
  unfolding kind_of
  known_says e = go (eqb c own) (is_known c) e
    where
      go : (a b : Bool) → Known ≡ (if b then (if a then Own else Known) else Unknown) → (b ≡ true) × (a ≡ false)
      go a false d = no cc
      go true true d = no cc
      go false true d = (refl, refl)

  pub own_says : Own ≡ kind_of own c → (is_known c ≡ true) × (eqb c own ≡ true)
  unfolding kind_of
  own_says e = go (eqb c own) (is_known c) e
    where
      go : (a b : Bool) → Own ≡ (if b then (if a then Own else Known) else Unknown) → (b ≡ true) × (a ≡ true)
      go a false d = no cc
      go true true d = (refl, refl)
      go false true d = no cc
