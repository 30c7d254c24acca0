-- Laws for a receiver that waits: a bound on what a reader in stages asks for, that none of its tests says 1, and how many of its named lengths are there.
-- Assumes nothing.
use Prim.Native.Nat.{ℕ, zero, suc, ◌≤◌, ◌<◌, zero-le, suc-le-suc}
use mathlib.Core.Path.{◌≡◌, refl}
use mathlib.Core.Bool.{Bool, true, false}
use mathlib.Core.List.{List, ◌++◌}
use native.Mathlib.Omega.{arith}
use lib.Dec.{ltb}
use lib.ListN.{length, get_or, take, length-append}
use lib.Seq.{take-append-le}
use borrow.Author.Tests.{ltb-false, le-ltb, eq-eqb, ne_eqb}
use Rattle.std.specs.Prelude.{if◌then◌else◌}
use Rattle.fields.specs.Answer.{Answer, accepted, short, refused, told}
use Rattle.fields.specs.Staged.{Staged, accept, refuse_if, need, run, ◌>>=◌}
use Rattle.fields.specs.Demand3.{AtMost}

-- ---- a refusal's number says whether bytes are lacking

module _ {A : Type 0} (ns : List ℕ) where
  pub told_one : get_or ns 0 0 ≡ 1 → ◌≡◌ {A = Answer A} (told ns) (short (get_or ns 1 0) (get_or ns 2 0))
  unfolding told
  told_one e = rw (eq-eqb _ _ e)

  pub told_other : (get_or ns 0 0 ≡ 1 → ⊥) → ◌≡◌ {A = Answer A} (told ns) (refused ns)
  unfolding told
  told_other h = rw (ne_eqb _ _ h)

-- ---- its needs are at most m, behind tests that were passed, and none of its tests says 1

abbrev pub Asks : {A : Type 0} → ℕ → Staged A → Type 0
Asks m (accept a) = Unit {0}
Asks m (refuse_if c ns r) = (get_or ns 0 0 ≡ 1 → ⊥) × (c ≡ false → Asks m r)
Asks m (need n next) = (n ≤ m) × ((b : List ℕ) → Asks m (next b))

pub asks_bind : {A B : Type 0} (m : ℕ) (r : Staged A) (f : A → Staged B) → Asks m r → ((a : A) → Asks m (f a)) → Asks m (r >>= f)
asks_bind m (accept a) f h k = k a
asks_bind m (refuse_if c ns r) f h k = (h.0, λ e. asks_bind m r f (h.1 e) k)
asks_bind m (need n next) f h k = (h.0, λ b. asks_bind m (next b) f (h.1 b) k)

-- what an answer of such a reader can be
abbrev pub Said : {A : Type 0} → ℕ → Answer A → Type 0
Said m (accepted a) = Unit {0}
Said m (short l n) = n ≤ m
Said m (refused ns) = get_or ns 0 0 ≡ 1 → ⊥

pub asks_said : {A : Type 0} (m : ℕ) (r : Staged A) (s : List ℕ) → Asks m r → Said m (run r s)
asks_said m (accept a) s h = tt
asks_said m (refuse_if true ns r) s h = h.0
asks_said m (refuse_if false ns r) s h = asks_said m r s (h.1 refl)
asks_said {A} m (need n next) s h = go (ltb (length s) n) (asks_said m (next (take n s)) s (h.1 (take n s)))
  where
    go : (c : Bool) → Said m (run (next (take n s)) s) → Said m (if c then short (length s) n else run (next (take n s)) s)
    go true rest = h.0
    go false rest = rest

-- ---- the named lengths that are there

abbrev pub reached : {A : Type 0} → Staged A → List ℕ → ℕ
reached (accept a) s = 0
reached (refuse_if c ns r) s = if c then 0 else reached r s
reached (need n next) s = if ltb (length s) n then 0 else suc (reached (next (take n s)) s)

-- they are at most as many as the reader names, and fewer where it is short
pub reached_most : {A : Type 0} (r : Staged A) (k : ℕ) (s : List ℕ) → AtMost r k → reached r s ≤ k
reached_most (accept a) k s h = zero-le
reached_most (refuse_if true ns r) k s h = zero-le
reached_most (refuse_if false ns r) k s h = reached_most r k s h
reached_most (need n next) zero s h = absurd h
reached_most (need n next) (suc k) s h = go (ltb (length s) n) (reached_most (next (take n s)) k s (h (take n s)))
  where
    go : (c : Bool) → reached (next (take n s)) s ≤ k → (if c then 0 else suc (reached (next (take n s)) s)) ≤ suc k
    go true rest = zero-le
    go false rest = suc-le-suc rest

pub reached_fewer : {A : Type 0} (r : Staged A) (k : ℕ) (s : List ℕ) (l n : ℕ) → AtMost r k → run r s ≡ short l n → reached r s < k
reached_fewer (accept a) k s l n h e = let z : ◌≡◌ {A = ℕ} 0 1 = cc in absurd (let b : ⊥ = omega arith in b)
reached_fewer (refuse_if true ns r) k s l n h e = let z : ◌≡◌ {A = ℕ} 0 1 = cc in absurd (let b : ⊥ = omega arith in b)
reached_fewer (refuse_if false ns r) k s l n h e = reached_fewer r k s l n h e
reached_fewer (need m next) zero s l n h e = absurd h
reached_fewer {A} (need m next) (suc k) s l n h e = go (ltb (length s) m) e (λ d. reached_fewer (next (take m s)) k s l n (h (take m s)) d)
  where
    go : (c : Bool) → ◌≡◌ {A = Answer A} (if c then short (length s) m else run (next (take m s)) s) (short l n)
        → (run (next (take m s)) s ≡ short l n → reached (next (take m s)) s < k)
        → (if c then 0 else suc (reached (next (take m s)) s)) < suc k
    go true d rest = omega arith
    go false d rest = suc-le-suc (rest d)

-- with the bytes that a short reading named there is one more
pub reached_more : {A : Type 0} (r : Staged A) (s t : List ℕ) (l n : ℕ) → run r s ≡ short l n → n ≤ length (s ++ t) → reached r s < reached r (s ++ t)
reached_more (accept a) s t l n e h = let z : ◌≡◌ {A = ℕ} 0 1 = cc in absurd (let b : ⊥ = omega arith in b)
reached_more (refuse_if true ns r) s t l n e h = let z : ◌≡◌ {A = ℕ} 0 1 = cc in absurd (let b : ⊥ = omega arith in b)
reached_more (refuse_if false ns r) s t l n e h = reached_more r s t l n e h
reached_more {A} (need m next) s t l n e h = go (ltb (length s) m) refl e (λ d. reached_more (next (take m s)) s t l n d h)
  where
    go : (c : Bool) → ltb (length s) m ≡ c → ◌≡◌ {A = Answer A} (if c then short (length s) m else run (next (take m s)) s) (short l n)
        → (run (next (take m s)) s ≡ short l n → reached (next (take m s)) s < reached (next (take m s)) (s ++ t))
        → (if c then 0 else suc (reached (next (take m s)) s)) < (if ltb (length (s ++ t)) m then 0 else suc (reached (next (take m (s ++ t))) (s ++ t)))
    go true c d rest = let q : m ≡ n = cc in let k : m ≤ length (s ++ t) = omega arith in rw (le-ltb _ _ k) (omega arith)
    go false c d rest =
        let k : m ≤ length s = ltb-false (length s) m c in
        let j : m ≤ length (s ++ t) = omega (arith, length-append s t) in
        rw (le-ltb _ _ j, take-append-le) (suc-le-suc (rest d))

-- and with any bytes behind them no fewer
pub reached_kept : {A : Type 0} (r : Staged A) (s t : List ℕ) → reached r s ≤ reached r (s ++ t)
reached_kept (accept a) s t = zero-le
reached_kept (refuse_if true ns r) s t = zero-le
reached_kept (refuse_if false ns r) s t = reached_kept r s t
reached_kept (need m next) s t = go (ltb (length s) m) refl (reached_kept (next (take m s)) s t)
  where
    go : (c : Bool) → ltb (length s) m ≡ c → reached (next (take m s)) s ≤ reached (next (take m s)) (s ++ t)
        → (if c then 0 else suc (reached (next (take m s)) s)) ≤ (if ltb (length (s ++ t)) m then 0 else suc (reached (next (take m (s ++ t))) (s ++ t)))
    go true c rest = zero-le
    go false c rest =
        let k : m ≤ length s = ltb-false (length s) m c in
        let j : m ≤ length (s ++ t) = omega (arith, length-append s t) in
        rw (le-ltb _ _ j, take-append-le) (suc-le-suc rest)
