-- The longest ranges of one label: a stretch of one label joins or stands in front; they are apart, give each byte its label, and nothing else does.
-- Assumes nothing.
use Prim.Native.Nat.{ℕ, zero, suc, ◌+◌, ◌-◌, ◌≤◌, ◌<◌}
use mathlib.Core.Path.{◌≡◌, refl, sym, ap, ◌∙◌}
use mathlib.Core.Bool.{and-false}
use mathlib.Core.List.{List, [], ◌∷◌}
use mathlib.Core.Logic.{⊎_elim}
use native.Mathlib.Omega.{arith}
use borrow.Author.Tests.{le-leb, lt-leb, lt-ltb, le-ltb, eq-eqb, ne_eqb}
use Rattle.ranges.specs.Runs.{Run, range, joined, in_front, runs, ApartFrom, label_in}
use Rattle.ranges.specs.Within.{closed}
use Rattle.ranges.proofs.Tests.{eq?, lt?}

-- ---- a range in front of ranges

module _ (from to l : ℕ) where
  pub in_front_none : (rs : List Run) → l ≡ 0 → in_front from to l rs ≡ rs
  unfolding in_front
  in_front_none rs h = rw (eq-eqb _ _ h)

  pub in_front_some : (rs : List Run) → (l ≡ 0 → ⊥) → in_front from to l rs ≡ joined from to l rs
  unfolding in_front
  in_front_some rs h = rw (ne_eqb _ _ h)

  module _ (a b k : ℕ) (rs : List Run) where
    joined_touch : to ≡ a → l ≡ k → joined from to l (range a b k ∷ rs) ≡ range from b l ∷ rs
    joined_touch p q = rw (eq-eqb _ _ p, eq-eqb _ _ q)

    joined_gap : (to ≡ a → ⊥) → joined from to l (range a b k ∷ rs) ≡ range from to l ∷ range a b k ∷ rs
    joined_gap p = rw (ne_eqb _ _ p)

    joined_other : (l ≡ k → ⊥) → joined from to l (range a b k ∷ rs) ≡ range from to l ∷ range a b k ∷ rs
    joined_other p = rw (ne_eqb _ _ p, and-false)

-- two stretches of one label in front are one
joined_twice : (s m t k : ℕ) (rs : List Run) → joined s m k (joined m t k rs) ≡ joined s t k rs
joined_twice s m t k [] = joined_touch s m k m t k [] refl refl
joined_twice s m t k (range a b j ∷ rs) =
    ⊎_elim
    (λ p. ⊎_elim (λ q. ap (joined s m k) (joined_touch m t k a b j rs p q) ∙ joined_touch s m k m b k rs refl refl ∙ sym (joined_touch s t k a b j rs p q)) (λ q. apart (joined_other m t k a b j rs q) (joined_other s t k a b j rs q)) (eq? k j))
    (λ p. apart (joined_gap m t k a b j rs p) (joined_gap s t k a b j rs p)) (eq? t a)
  where
    apart : joined m t k (range a b j ∷ rs) ≡ range m t k ∷ range a b j ∷ rs → joined s t k (range a b j ∷ rs) ≡ range s t k ∷ range a b j ∷ rs
        → joined s m k (joined m t k (range a b j ∷ rs)) ≡ joined s t k (range a b j ∷ rs)
    apart e e' = ap (joined s m k) e ∙ joined_touch s m k m t k (range a b j ∷ rs) refl refl ∙ sym e'

pub in_front_twice : (s m t k : ℕ) (rs : List Run) → in_front s m k (in_front m t k rs) ≡ in_front s t k rs
in_front_twice s m t k rs =
    ⊎_elim (λ z. in_front_none s m k (in_front m t k rs) z ∙ in_front_none m t k rs z ∙ sym (in_front_none s t k rs z)) something (eq? k 0)
  where
    something : (k ≡ 0 → ⊥) → in_front s m k (in_front m t k rs) ≡ in_front s t k rs
    something z =
        in_front_some s m k (in_front m t k rs) z ∙ ap (joined s m k) (in_front_some m t k rs z) ∙ joined_twice s m t k rs ∙ sym (in_front_some s t k rs z)

-- ---- a stretch of bytes of one label

pub runs_suc : (f : ℕ → ℕ) (at n : ℕ) → runs f at (suc n) ≡ in_front at (at + 1) (f at) (runs f (at + 1) n)
unfolding runs
runs_suc f at n = refl

pub runs_none : (f : ℕ → ℕ) (at : ℕ) → runs f at 0 ≡ []
unfolding runs
runs_none f at = refl

-- k + 1 bytes of label l, and n behind them
stretch : (f : ℕ → ℕ) (l at k n : ℕ) → ((b : ℕ) → at ≤ b → b < at + suc k → f b ≡ l) → runs f at (suc k + n) ≡ in_front at (at + suc k) l (runs f (at + suc k) n)
stretch f l at zero n h =
    let e : suc zero + n ≡ suc n = omega arith in
    let e' : at + 1 ≡ at + suc zero = omega arith in
    ap (runs f at) e ∙ runs_suc f at n ∙ ap (λ (x : ℕ). in_front at (at + 1) x (runs f (at + 1) n)) (h at (omega arith) (omega arith))
stretch f l at (suc k) n h =
    let e : suc (suc k) + n ≡ suc (suc k + n) = omega arith in
    let e' : at + 1 + suc k ≡ at + suc (suc k) = omega arith in
    let ih = stretch f l (at + 1) k n (λ b p q. h b (omega arith) (omega arith)) in
    ap (runs f at) e ∙ runs_suc f at (suc k + n)
    ∙ ap (λ (x : ℕ). in_front at (at + 1) x (runs f (at + 1) (suc k + n))) (h at (omega arith) (omega arith))
    ∙ ap (in_front at (at + 1) l) ih
    ∙ in_front_twice at (at + 1) (at + 1 + suc k) l (runs f (at + 1 + suc k) n)
    ∙ ap (λ (x : ℕ). in_front at x l (runs f x n)) e'

-- the bytes from `at` up to `to` have label l: the ranges up to `end` are those from `to` on with that stretch in front
pub runs_stretch : (f : ℕ → ℕ) (l at to end : ℕ) → at < to → to ≤ end → ((b : ℕ) → at ≤ b → b < to → f b ≡ l)
    → runs f at (end - at) ≡ in_front at to l (runs f to (end - to))
runs_stretch f l at to end p q h =
    let e : end - at ≡ suc (to - at - 1) + (end - to) = omega arith in
    let e' : at + suc (to - at - 1) ≡ to = omega arith in
    ap (runs f at) e
    ∙ stretch f l at (to - at - 1) (end - to) (λ b u v. h b u (omega arith))
    ∙ ap (λ (x : ℕ). in_front at x l (runs f x (end - to))) e'

-- ---- apart

pub apart_later : (e e' k : ℕ) (rs : List Run) → e < e' → ApartFrom e' 0 rs → ApartFrom e k rs
apart_later e e' k [] p h = tt
apart_later e e' k (range a b l ∷ rs) p h = (omega (arith, h.0), h.1, h.2, (λ u v. absurd (let z : ⊥ = omega (arith, h.0) in z)), h.4)

apart_joined : (from to l : ℕ) (rs : List Run) → from < to → (l ≡ 0 → ⊥) → ApartFrom to 0 rs → ApartFrom from 0 (joined from to l rs)
apart_joined from to l [] p z h = (omega arith, p, z, (λ u v. z (sym v)), tt)
apart_joined from to l (range a b k ∷ rs) p z h =
    ⊎_elim (λ u. ⊎_elim (λ v. touch u v) (λ v. other (joined_other from to l a b k rs v) (λ x. v)) (eq? l k))
    (λ u. other (joined_gap from to l a b k rs u) (λ x. absurd (u x))) (eq? to a)
  where
    other : joined from to l (range a b k ∷ rs) ≡ range from to l ∷ range a b k ∷ rs → (to ≡ a → l ≡ k → ⊥)
        → ApartFrom from 0 (joined from to l (range a b k ∷ rs))
    other e v = rw e (omega arith, p, z, (λ x y. z (sym y)), (h.0, h.1, h.2, v, h.4))

    touch : to ≡ a → l ≡ k → ApartFrom from 0 (joined from to l (range a b k ∷ rs))
    touch u v = rw (joined_touch from to l a b k rs u v) (omega arith, omega (arith, h.1), z, (λ x y. z (sym y)), rw v h.4)

apart_in_front : (from to l : ℕ) (rs : List Run) → from < to → ApartFrom to 0 rs → ApartFrom from 0 (in_front from to l rs)
apart_in_front from to l rs p h =
    ⊎_elim (λ z. rw (in_front_none from to l rs z) (apart_later from to 0 rs p h))
    (λ z. rw (in_front_some from to l rs z) (apart_joined from to l rs p z h)) (eq? l 0)

pub runs_apart : (f : ℕ → ℕ) (at n : ℕ) → ApartFrom at 0 (runs f at n)
runs_apart f at zero = rw (runs_none f at) tt
runs_apart f at (suc n) = rw (runs_suc f at n) (apart_in_front at (at + 1) (f at) (runs f (at + 1) n) (omega arith) (runs_apart f (at + 1) n))

-- ---- the range that is open: it is closed where the label changes

pub closed_none : (from to l : ℕ) (rs : List Run) → l ≡ 0 → closed from to l rs ≡ rs
unfolding closed
closed_none from to l rs h = rw (eq-eqb _ _ h)

pub closed_some : (from to l : ℕ) (rs : List Run) → (l ≡ 0 → ⊥) → closed from to l rs ≡ range from to l ∷ rs
unfolding closed
closed_some from to l rs h = rw (ne_eqb _ _ h)

pub in_front_last : (from to l : ℕ) → in_front from to l [] ≡ closed from to l []
in_front_last from to l =
    ⊎_elim (λ z. in_front_none from to l [] z ∙ sym (closed_none from to l [] z))
    (λ z. in_front_some from to l [] z ∙ sym (closed_some from to l [] z)) (eq? l 0)

-- nothing of label k starts at m, so a range of label k that ends there is not joined
joined_far : (s m t k : ℕ) (rs : List Run) → m < t → ApartFrom t 0 rs → joined s m k rs ≡ range s m k ∷ rs
joined_far s m t k [] p h = refl
joined_far s m t k (range a b j ∷ rs) p h = joined_gap s m k a b j rs (λ e. absurd (let z : ⊥ = omega (arith, h.0) in z))

joined_unlike : (s m t k l : ℕ) (rs : List Run) → (k ≡ l → ⊥) → joined s m k (joined m t l rs) ≡ range s m k ∷ joined m t l rs
joined_unlike s m t k l [] n = joined_other s m k m t l [] n
joined_unlike s m t k l (range a b j ∷ rs) n =
    ⊎_elim (λ p. ⊎_elim (λ q. step (joined_touch m t l a b j rs p q)) (λ q. step (joined_other m t l a b j rs q)) (eq? l j))
    (λ p. step (joined_gap m t l a b j rs p)) (eq? t a)
  where
    step : {d : ℕ} {ss : List Run} → joined m t l (range a b j ∷ rs) ≡ range m d l ∷ ss
        → joined s m k (joined m t l (range a b j ∷ rs)) ≡ range s m k ∷ joined m t l (range a b j ∷ rs)
    step {d} {ss} e = ap (joined s m k) e ∙ joined_other s m k m d l ss n ∙ ap (λ (x : List Run). range s m k ∷ x) (sym e)

pub in_front_unlike : (s m t k l : ℕ) (rs : List Run) → (k ≡ l → ⊥) → m < t → ApartFrom t 0 rs
    → in_front s m k (in_front m t l rs) ≡ closed s m k (in_front m t l rs)
in_front_unlike s m t k l rs n p h = ⊎_elim (λ z. in_front_none s m k (in_front m t l rs) z ∙ sym (closed_none s m k (in_front m t l rs) z)) some_range (eq? k 0)
  where
    some_range : (k ≡ 0 → ⊥) → in_front s m k (in_front m t l rs) ≡ closed s m k (in_front m t l rs)
    some_range z =
        in_front_some s m k (in_front m t l rs) z
        ∙ ⊎_elim
        (λ y. ap (joined s m k) (in_front_none m t l rs y) ∙ joined_far s m t k rs p h ∙ ap (λ (x : List Run). range s m k ∷ x) (sym (in_front_none m t l rs y)))
        (λ y. ap (joined s m k) (in_front_some m t l rs y) ∙ joined_unlike s m t k l rs n ∙ ap (λ (x : List Run). range s m k ∷ x) (sym (in_front_some m t l rs y)))
        (eq? l 0)
        ∙ sym (closed_some s m k (in_front m t l rs) z)

-- ---- the label of a byte

module _ (from to l : ℕ) (rs : List Run) (b : ℕ) where
  pub label_here : from ≤ b → b < to → label_in (range from to l ∷ rs) b ≡ l
  label_here p q = rw (le-leb _ _ p, lt-ltb _ _ q)

  pub label_before : b < from → label_in (range from to l ∷ rs) b ≡ label_in rs b
  label_before p = rw (lt-leb _ _ p)

  pub label_after : to ≤ b → label_in (range from to l ∷ rs) b ≡ label_in rs b
  label_after p = rw (le-ltb _ _ p, and-false)

-- before the first range no byte has a label
label_below : (e k b : ℕ) (rs : List Run) → ApartFrom e k rs → b < e → label_in rs b ≡ 0
label_below e k b [] h p = refl
label_below e k b (range a c l ∷ rs) h p = label_before a c l rs b (omega (arith, h.0)) ∙ label_below c l b rs h.4 (omega (arith, h.0, h.1))

label_joined_in : (from to l b : ℕ) (rs : List Run) → from ≤ b → b < to → ApartFrom to 0 rs → label_in (joined from to l rs) b ≡ l
label_joined_in from to l b [] p q h = label_here from to l [] b p q
label_joined_in from to l b (range a c k ∷ rs) p q h =
    ⊎_elim
    (λ u. ⊎_elim (λ v. ap (λ (x : List Run). label_in x b) (joined_touch from to l a c k rs u v) ∙ label_here from c l rs b p (omega (arith, h.1))) (λ v. far (joined_other from to l a c k rs v)) (eq? l k))
    (λ u. far (joined_gap from to l a c k rs u)) (eq? to a)
  where
    far : joined from to l (range a c k ∷ rs) ≡ range from to l ∷ range a c k ∷ rs → label_in (joined from to l (range a c k ∷ rs)) b ≡ l
    far e = ap (λ (x : List Run). label_in x b) e ∙ label_here from to l (range a c k ∷ rs) b p q

label_joined_out : (from to l b : ℕ) (rs : List Run) → from < to → to ≤ b → label_in (joined from to l rs) b ≡ label_in rs b
label_joined_out from to l b [] p q = label_after from to l [] b q
label_joined_out from to l b (range a c k ∷ rs) p q =
    ⊎_elim (λ u. ⊎_elim (λ v. touch u v) (λ v. far (joined_other from to l a c k rs v)) (eq? l k)) (λ u. far (joined_gap from to l a c k rs u)) (eq? to a)
  where
    far : joined from to l (range a c k ∷ rs) ≡ range from to l ∷ range a c k ∷ rs
        → label_in (joined from to l (range a c k ∷ rs)) b ≡ label_in (range a c k ∷ rs) b
    far e = ap (λ (x : List Run). label_in x b) e ∙ label_after from to l (range a c k ∷ rs) b q

    touch : to ≡ a → l ≡ k → label_in (joined from to l (range a c k ∷ rs)) b ≡ label_in (range a c k ∷ rs) b
    touch u v =
        ap (λ (x : List Run). label_in x b) (joined_touch from to l a c k rs u v)
        ∙ ⊎_elim (λ m. label_here from c l rs b (omega arith) m ∙ v ∙ sym (label_here a c k rs b (omega arith) m))
        (λ m. label_after from c l rs b m ∙ sym (label_after a c k rs b m)) (lt? b c)

module _ (from to l b : ℕ) (rs : List Run) where
  label_in_lem : from ≤ b → b < to → ApartFrom to 0 rs → label_in (in_front from to l rs) b ≡ l
  label_in_lem p q h =
      ⊎_elim (λ z. ap (λ (x : List Run). label_in x b) (in_front_none from to l rs z) ∙ label_below to 0 b rs h q ∙ sym z)
      (λ z. ap (λ (x : List Run). label_in x b) (in_front_some from to l rs z) ∙ label_joined_in from to l b rs p q h)
      (eq? l 0)

  label_out : from < to → to ≤ b → label_in (in_front from to l rs) b ≡ label_in rs b
  label_out p q =
      ⊎_elim (λ z. ap (λ (x : List Run). label_in x b) (in_front_none from to l rs z))
      (λ z. ap (λ (x : List Run). label_in x b) (in_front_some from to l rs z) ∙ label_joined_out from to l b rs p q) (eq? l 0)

-- the ranges give each byte its label
pub runs_label : (f : ℕ → ℕ) (at n b : ℕ) → at ≤ b → b < at + n → label_in (runs f at n) b ≡ f b
runs_label f at zero b p q = absurd (let z : ⊥ = omega arith in z)
runs_label f at (suc n) b p q =
    ap (λ (x : List Run). label_in x b) (runs_suc f at n)
    ∙ ⊎_elim (λ u. label_in_lem at (at + 1) (f at) b (runs f (at + 1) n) p u (runs_apart f (at + 1) n) ∙ ap f (let e : at ≡ b = omega arith in e))
    (λ u. label_out at (at + 1) (f at) b (runs f (at + 1) n) (omega arith) u ∙ runs_label f (at + 1) n b u (omega arith)) (lt? b (at + 1))

-- and none to a byte beyond
pub runs_beyond : (f : ℕ → ℕ) (at n b : ℕ) → at + n ≤ b → label_in (runs f at n) b ≡ 0
runs_beyond f at zero b p = ap (λ (x : List Run). label_in x b) (runs_none f at)
runs_beyond f at (suc n) b p =
    ap (λ (x : List Run). label_in x b) (runs_suc f at n)
    ∙ label_out at (at + 1) (f at) b (runs f (at + 1) n) (omega arith) (omega arith)
    ∙ runs_beyond f (at + 1) n b (omega arith)

-- ---- nothing else does

-- behind a range of label l that ends at b, byte b has another label
label_changes : (b l : ℕ) (rs : List Run) → ApartFrom b l rs → (l ≡ 0 → ⊥) → label_in rs b ≡ l → ⊥
label_changes b l [] h z e = z (sym e)
label_changes b l (range x y j ∷ rs) h z e =
    ⊎_elim (λ u. h.3 u (sym (sym (label_here x y j rs b (omega arith) (omega (arith, h.1))) ∙ e)))
    (λ u. z (sym e ∙ label_before x y j rs b (omega (arith, h.0, u)) ∙ label_below y j b rs h.4 (omega (arith, h.0, h.1)))) (eq? b x)

-- two lists that are apart and give the same labels are one
pub apart_one : (e k k' : ℕ) (rs ss : List Run) → ApartFrom e k rs → ApartFrom e k' ss → ((b : ℕ) → e ≤ b → label_in rs b ≡ label_in ss b) → rs ≡ ss
apart_one e k k' [] [] h g same = refl
apart_one e k k' [] (range a b l ∷ ss) h g same = absurd (g.2 (sym (same a g.0 ∙ label_here a b l ss a (omega arith) g.1)))
apart_one e k k' (range a b l ∷ rs) [] h g same = absurd (h.2 (sym (label_here a b l rs a (omega arith) h.1) ∙ same a h.0))
apart_one e k k' (range a b l ∷ rs) (range c d m ∷ ss) h g same =
    finish (λ (w : ApartFrom b m ss) t. apart_one b l m rs ss h.4 w t)
  where
    start : a ≡ c
    start =
        ⊎_elim
        (λ u. absurd (h.2 (sym (label_here a b l rs a (omega arith) h.1) ∙ same a h.0 ∙ label_before c d m ss a u ∙ label_below d m a ss g.4 (omega (arith, g.1)))))
        (λ u. ⊎_elim (λ v. absurd (g.2 (sym (label_here c d m ss c (omega arith) g.1) ∙ sym (same c g.0) ∙ label_before a b l rs c v ∙ label_below b l c rs h.4 (omega (arith, h.1))))) (λ v. omega arith) (lt? c a))
        (lt? a c)

    label : l ≡ m
    label = sym (label_here a b l rs a (omega arith) h.1) ∙ same a h.0 ∙ label_here c d m ss a (omega (arith, start)) (omega (arith, start, g.1))

    stop : b ≡ d
    stop =
        ⊎_elim
        (λ u. absurd (label_changes b l rs h.4 h.2 (sym (label_after a b l rs b (omega arith)) ∙ same b (omega (arith, h.0, h.1)) ∙ label_here c d m ss b (omega (arith, start, h.1)) u ∙ sym label)))
        (λ u. ⊎_elim (λ v. absurd (label_changes d m ss g.4 g.2 (sym (label_after c d m ss d (omega arith)) ∙ sym (same d (omega (arith, g.0, g.1))) ∙ label_here a b l rs d (omega (arith, start, g.1)) v ∙ label))) (λ v. omega arith) (lt? d b))
        (lt? b d)

    finish : (ApartFrom b m ss → ((x : ℕ) → b ≤ x → label_in rs x ≡ label_in ss x) → rs ≡ ss) → range a b l ∷ rs ≡ range c d m ∷ ss
    finish more =
        let rest : rs ≡ ss = more (rw stop g.4)
        (λ x p. sym (label_after a b l rs x p) ∙ same x (omega (arith, h.0, h.1)) ∙ label_after c d m ss x (omega (arith, stop))) in
        let p = start in
        let q = label in
        let r = stop in
        cc

-- the longest ranges are the only ones that are apart and give each byte its label
pub runs_only : (f : ℕ → ℕ) (at n : ℕ) (rs : List Run) → ApartFrom at 0 rs → ((b : ℕ) → at ≤ b → b < at + n → label_in rs b ≡ f b)
    → ((b : ℕ) → at + n ≤ b → label_in rs b ≡ 0) → rs ≡ runs f at n
runs_only f at n rs h same none =
    apart_one at 0 0 rs (runs f at n) h (runs_apart f at n)
    (λ b p. ⊎_elim (λ u. same b p u ∙ sym (runs_label f at n b p u)) (λ u. none b u ∙ sym (runs_beyond f at n b u)) (lt? b (at + n)))

-- behind the last byte that has a label it does not matter where they end
pub runs_shorter : (f : ℕ → ℕ) (n m : ℕ) → n ≤ m → ((b : ℕ) → n ≤ b → f b ≡ 0) → runs f 0 m ≡ runs f 0 n
runs_shorter f n m l none =
    runs_only f 0 n (runs f 0 m) (runs_apart f 0 m)
    (λ b p q. runs_label f 0 m b p (omega arith))
    (λ b p. ⊎_elim (λ u. runs_label f 0 m b (omega arith) u ∙ none b (omega arith)) (λ u. runs_beyond f 0 m b u) (lt? b (0 + m)))
