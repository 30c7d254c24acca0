-- The gaps between ranges: what the iterator gives, one after the other, how many they are, and how requests are compared with them.
-- Assumes nothing.
use Prim.Native.Nat.{ℕ, suc, ◌+◌, ◌<◌, ◌≤◌, min, max}
use mathlib.Core.Path.{◌≡◌, refl, sym, ap, ap₂, subst, ◌∙◌}
use mathlib.Core.Bool.{Bool, true, false, ◌&&◌}
use mathlib.Core.List.{List, [], ◌∷◌}
use mathlib.Core.Logic.{⊎_elim}
use native.Mathlib.Omega.{arith}
use lib.Dec.{leb, eqb}
use lib.ListN.{length, get_or}
use borrow.Author.Tests.{lt-ltb, le-ltb, le-leb, lt-leb}
use Rattle.std.specs.Prelude.{Option, Some, None, if◌then◌else◌}
use Rattle.std.specs.List.{AllZip}
use Rattle.std.specs.Option.{MatchOption, IfSome}
use Rattle.std.specs.Iterator.{AlwaysYields, YieldsThen, ComparesItemsByEq}
use Rattle.std.proofs.lemmas.Iterator.{YieldsList}
use Rattle.std.proofs.lemmas.List.{nil_from_length, length-map}
use Rattle.ranges.proofs.Tests.{lt?}
use Rattle.plan.specs.Gaps.{pairs, front, gaps, same_pairs}

pub lesser_is : (a b : ℕ) → a ≤ b → (if leb a b then a else b) ≡ a
lesser_is a b h = rw (le-leb a b h)

pub lesser_not : (a b : ℕ) → b < a → (if leb a b then a else b) ≡ b
lesser_not a b h = rw (lt-leb a b h)

pub greater_is : (a b : ℕ) → a ≤ b → (if leb a b then b else a) ≡ b
greater_is a b h = rw (le-leb a b h)

pub greater_not : (a b : ℕ) → b < a → (if leb a b then b else a) ≡ a
greater_not a b h = rw (lt-leb a b h)

lesser : (a b : ℕ) → (if leb a b then a else b) ≡ min a b
lesser a b =
    ⊎_elim (λ l. lesser_not a b l ∙ (let e : b ≡ min a b = omega arith in e)) (λ l. lesser_is a b l ∙ (let e : a ≡ min a b = omega arith in e))
    (lt? b a)

greater : (a b : ℕ) → (if leb a b then b else a) ≡ max a b
greater a b =
    ⊎_elim (λ l. greater_not a b l ∙ (let e : a ≡ max a b = omega arith in e)) (λ l. greater_is a b l ∙ (let e : b ≡ max a b = omega arith in e))
    (lt? b a)

pub gaps_none : (at stop : ℕ) → gaps at stop [] ≡ front at stop []
unfolding gaps
gaps_none at stop = refl

pub gaps_some : (at stop : ℕ) (p : ℕ × ℕ) (ps : List (ℕ × ℕ))
    → gaps at stop (p ∷ ps) ≡ front at (if leb stop p.0 then stop else p.0) (gaps (if leb at p.1 then p.1 else at) stop ps)
unfolding gaps
gaps_some at stop p ps = refl

-- ---- the iterator

module _ (s : List (List ℕ)) (at stop : ℕ) where
  module _ (c : List ℕ) (rest : List (List ℕ)) (e : s ≡ c ∷ rest) (to behind : ℕ) (t : to ≡ min stop (get_or c 0 0)) (b : behind ≡ max at (get_or c 1 0)) where
    step : gaps at stop (pairs s) ≡ front at to (gaps behind stop (pairs rest))
    step =
        ap (λ (x : List (List ℕ)). gaps at stop (pairs x)) e
        ∙ gaps_some at stop (get_or c 0 0, get_or c 1 0) (pairs rest)
        ∙ rw (lesser stop (get_or c 0 0), greater at (get_or c 1 0), t, b)

    pub gap_found : at < to → gaps at stop (pairs s) ≡ (at, to) ∷ gaps behind stop (pairs rest)
    gap_found l = step ∙ rw (lt-ltb at to l)

    pub gap_covered : to ≤ at → gaps at stop (pairs s) ≡ gaps behind stop (pairs rest)
    gap_covered l = step ∙ rw (le-ltb at to l)

  module _ (e : length s ≡ 0) where
    none : pairs s ≡ []
    none = ap pairs (nil_from_length s e)

    pub gap_last : at < stop → gaps at stop (pairs s) ≡ (at, stop) ∷ gaps stop stop (pairs s)
    gap_last l = rw (none, gaps_none at stop, gaps_none stop stop, lt-ltb at stop l, le-ltb stop stop (omega arith))

    pub gap_over : stop ≤ at → gaps at stop (pairs s) ≡ []
    gap_over l = rw (none, gaps_none at stop, le-ltb at stop l)

-- ---- how many

front_few : (from to : ℕ) (rs : List (ℕ × ℕ)) → length (front from to rs) ≤ length rs + 1
front_few from to rs =
    ⊎_elim (λ l. rw (lt-ltb from to l) (let z : suc (length rs) ≤ length rs + 1 = omega arith in z))
    (λ l. rw (le-ltb from to l) (let z : length rs ≤ length rs + 1 = omega arith in z)) (lt? from to)

gaps_few : (at stop : ℕ) (ps : List (ℕ × ℕ)) → length (gaps at stop ps) ≤ length ps + 1
gaps_few at stop [] = rw (gaps_none at stop) (front_few at stop [])
gaps_few at stop (p ∷ ps) =
    rw (gaps_some at stop p ps)
    (let m = front_few at (if leb stop p.0 then stop else p.0) (gaps (if leb at p.1 then p.1 else at) stop ps) in
    let k = gaps_few (if leb at p.1 then p.1 else at) stop ps in
    omega arith)

pub few_gaps : (at stop : ℕ) (s : List (List ℕ)) → length (gaps at stop (pairs s)) ≤ length s + 1
few_gaps at stop s = omega (arith, gaps_few at stop (pairs s), length-map {B = ℕ × ℕ} s (λ c. (get_or c 0 0, get_or c 1 0)))

-- ---- the requests beside the gaps

module _ {S T : Type 0} (steps : S → Option (ℕ × ℕ) → S → Type 0) (others : T → Option (ℕ × ℕ) → T → Type 0) (eq : ℕ × ℕ → ℕ × ℕ → Bool)
    (agree : (x y : ℕ × ℕ) → eq x y ≡ (eqb x.0 y.0 && eqb x.1 y.1)) (r : Bool) where
  abbrev Last : Option (ℕ × ℕ) → Option (ℕ × ℕ) → Type 0
  Last o p = MatchOption o (MatchOption p (r ≡ true) (λ _. r ≡ false)) (λ x. (r ≡ false) × IfSome p (λ y. eq x y ≡ false))

  at_last : (o p : Option (ℕ × ℕ)) (xs ys : List (ℕ × ℕ)) (s u : S) (t w : T) → AlwaysYields steps (λ x. x) s xs → AlwaysYields others (λ x. x) t ys
      → steps s o u → others t p w → Last o p → r ≡ same_pairs xs ys
  at_last None p (x ∷ xs) ys s u t w e f a b h = absurd (e.0 u a)
  at_last (Some x) p [] ys s u t w e f a b h = absurd (e x u a)
  at_last None None [] (y ∷ ys) s u t w e f a b h = absurd (f.0 w b)
  at_last None (Some y) [] [] s u t w e f a b h = absurd (f y w b)
  at_last (Some x) None (z ∷ xs) (y ∷ ys) s u t w e f a b h = absurd (f.0 w b)
  at_last (Some x) (Some y) (z ∷ xs) [] s u t w e f a b h = absurd (f y w b)
  at_last None None [] [] s u t w e f a b h = h
  at_last None (Some y) [] (z ∷ ys) s u t w e f a b h = h
  at_last (Some x) None (z ∷ xs) [] s u t w e f a b h = h.0
  at_last (Some x) (Some y) (x' ∷ xs) (y' ∷ ys) s u t w e f a b h =
      let is : (eqb x'.0 y'.0 && eqb x'.1 y'.1) ≡ false = sym (agree x' y') ∙ sym (ap₂ eq (e.1 x u a).0 (f.1 y w b).0) ∙ h.1 in
      h.0 ∙ sym (ap (λ d. d && same_pairs xs ys) is)

  along : (cs bs : List (ℕ × ℕ)) (o p : Option (ℕ × ℕ)) (xs ys : List (ℕ × ℕ)) (s u : S) (t w : T) → AlwaysYields steps (λ x. x) s xs → AlwaysYields others (λ x. x) t ys
      → YieldsThen steps s cs o u → YieldsThen others t bs p w → AllZip (λ x y. eq x y ≡ true) cs bs → Last o p → r ≡ same_pairs xs ys
  along [] [] o p xs ys s u t w e f a b z h = at_last o p xs ys s u t w e f (subst (λ j. steps j o u) (sym a.1) a.2) (subst (λ j. others j p w) (sym b.1) b.2) h
  along [] (y ∷ bs) o p xs ys s u t w e f a b z h = absurd z
  along (x ∷ cs) [] o p xs ys s u t w e f a b z h = absurd z
  along (x ∷ cs) (y ∷ bs) o p [] ys s u t w e f a b z h = absurd (e x a.1.0 a.1.1)
  along (x ∷ cs) (y ∷ bs) o p (x' ∷ xs) [] s u t w e f a b z h = absurd (f y b.1.0 b.1.1)
  along (x ∷ cs) (y ∷ bs) o p (x' ∷ xs) (y' ∷ ys) s u t w e f a b z h =
      let m = e.1 x a.1.0 a.1.1 in
      let n = f.1 y b.1.0 b.1.1 in
      let tie : (eqb x'.0 y'.0 && eqb x'.1 y'.1) ≡ true = sym (agree x' y') ∙ sym (ap₂ eq m.0 n.0) ∙ z.0 in
      along cs bs o p xs ys a.1.0 u b.1.0 w m.1 n.1 (a.0, a.1.2, a.2) (b.0, b.1.2, b.2) z.1 h ∙ sym (ap (λ d. d && same_pairs xs ys) tie)

pub same_from_yields : {S U T : Type 0} {steps : S → Option (ℕ × ℕ) → S → Type 0} {others : T → Option (ℕ × ℕ) → T → Type 0} {s : S} {eq : ℕ × ℕ → ℕ × ℕ → Bool} {xs ys : List (ℕ × ℕ)}
    (becomes : U → T → Type 0) (other : U) (r : Bool) → ComparesItemsByEq steps becomes others s other eq r → YieldsList steps (λ x. x) s xs
    → ((it : T) → becomes other it → YieldsList others (λ x. x) it ys) → ((x y : ℕ × ℕ) → eq x y ≡ (eqb x.0 y.0 && eqb x.1 y.1)) → r ≡ same_pairs xs ys
same_from_yields {steps = steps} {others = others} {s = s} {eq = eq} {xs = xs} {ys = ys} becomes other r d e f agree =
    along steps others eq agree r d.1 d.2 d.3 d.4 xs ys s d.5 d.0 d.6 e.runs (f d.0 d.7).runs d.8 d.9 d.10 d.11
