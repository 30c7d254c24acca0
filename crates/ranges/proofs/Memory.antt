-- A state in memory: its ranges are tested one by one, what is stored is the memory of a state, and from there the state is read back.
-- Assumes nothing.
use Prim.Native.Nat.{ℕ, zero, suc, ◌+◌, ◌-◌, ◌*◌, ◌≤◌, ◌<◌}
use mathlib.Core.Path.{◌≡◌, refl, sym, ap, ap₂, ◌∙◌}
use mathlib.Core.Bool.{Bool, true, false, ◌&&◌, and-false}
use mathlib.Core.List.{List, [], ◌∷◌, ◌++◌, append_assoc, append-nil}
use native.Mathlib.Omega.{arith}
use native.Mathlib.Nat.{zero-add, suc-add}
use lib.Dec.{leb, ltb, eqb}
use lib.ListN.{length, get_or, take, drop, replicate, length-append, length-replicate, replicate-append-replicate, drop_of_length-le}
use lib.Seq.{sets-eq, drop-cons, get_or-take, take_at, set_at, get_or-append-add, length-take-le}
use borrow.Author.Tests.{le-leb, lt-leb, lt-ltb, le-ltb, leb-true, ltb-true}
use Rattle.std.specs.Prelude.{Option, Some, None, if◌then◌else◌}
use Rattle.ranges.specs.declared.owed.FirstNak.{FirstNak}
use Rattle.ranges.specs.Runs.{Run, range}
use Rattle.ranges.specs.Pairs.{Rising, twos, spans}
use Rattle.ranges.specs.Laying.{flat}
use Rattle.ranges.specs.Within.{laid}
use Rattle.ranges.specs.Owing.{State, most}
use Rattle.ranges.specs.Memory.{count_at, state_size, ranges_in, first_in, state_in, rises, is_state, first_numbers, pair_numbers, memory_of}
use Rattle.ranges.specs.OwedWithin.{head_put}
use Rattle.ranges.specs.OwedDemands.{FreshState}
use Rattle.ranges.proofs.Laying.{laid_all}
use Rattle.ranges.proofs.Spans.{length_spans}

-- ---- ranges that rise

-- the ranges from index i on, of so many
abbrev pub left : List ℕ → ℕ → ℕ → List (ℕ × ℕ)
left m count i = twos (drop (2 * i) (take (2 * count) m))

module _ (m : List ℕ) (count i last : ℕ) (room : 2 * count ≤ length m) (h : i < count) where
  here : left m count i ≡ (get_or m (2 * i) 0, get_or m (2 * i + 1) 0) ∷ left m count (i + 1)
  here =
      let n : length (take (2 * count) m) ≡ 2 * count = length-take-le (2 * count) m room in
      let e : 2 * i + 1 ≡ suc (2 * i) = omega arith in
      let e' : 2 * (i + 1) ≡ suc (suc (2 * i)) = omega arith in
      rw (
        drop-cons (take (2 * count) m) (2 * i) 0 (omega arith),
        drop-cons (take (2 * count) m) (suc (2 * i)) 0 (omega arith),
        e,
        e',
        get_or-take (2 * count) m (2 * i) 0 (omega arith),
        get_or-take (2 * count) m (suc (2 * i)) 0 (omega arith),
      )

  pub rise_before : (r : Bool) → get_or m (2 * i) 0 < last → rises last (left m count i) ≡ r → false ≡ r
  rise_before r k e = sym (rw (here, lt-leb last (get_or m (2 * i) 0) k)) ∙ e

  pub rise_empty : (r : Bool) → get_or m (2 * i + 1) 0 ≤ get_or m (2 * i) 0 → rises last (left m count i) ≡ r → false ≡ r
  rise_empty r k e = sym (rw (here, le-ltb (get_or m (2 * i) 0) (get_or m (2 * i + 1) 0) k, and-false)) ∙ e

  pub rise_on : (r : Bool) → last ≤ get_or m (2 * i) 0 → get_or m (2 * i) 0 < get_or m (2 * i + 1) 0 → rises last (left m count i) ≡ r
      → rises (get_or m (2 * i + 1) 0) (left m count (i + 1)) ≡ r
  rise_on r k l e = sym (rw (here, le-leb last (get_or m (2 * i) 0) k, lt-ltb (get_or m (2 * i) 0) (get_or m (2 * i + 1) 0) l)) ∙ e

-- none is left
pub rise_all : (m : List ℕ) (count i last : ℕ) (r : Bool) → 2 * count ≤ length m → count ≤ i → rises last (left m count i) ≡ r → true ≡ r
rise_all m count i last r room h e =
    let n : length (take (2 * count) m) ≡ 2 * count = length-take-le (2 * count) m room in
    sym (ap (λ (x : List ℕ). rises last (twos x)) (drop_of_length-le (take (2 * count) m) (let k : length (take (2 * count) m) ≤ 2 * i = omega arith in k))) ∙ e

pub rises_rising : (e : ℕ) (ps : List (ℕ × ℕ)) → rises e ps ≡ true → Rising e ps
rises_rising e [] k = tt
rises_rising e (p ∷ ps) k = go (leb e p.0) (ltb p.0 p.1) refl refl k (λ (c : rises p.1 ps ≡ true). rises_rising p.1 ps c)
  where
    go : (c d : Bool) → leb e p.0 ≡ c → ltb p.0 p.1 ≡ d → (c && d && rises p.1 ps) ≡ true → (rises p.1 ps ≡ true → Rising p.1 ps)
        → (e ≤ p.0) × (p.0 < p.1) × Rising p.1 ps
    go true true l m k more = (leb-true _ _ l, ltb-true _ _ m, more k)
    go true false l m k more = absurd (let z : ◌≡◌ {A = ℕ} 0 1 = cc in let b : ⊥ = omega arith in b)
    go false d l m k more = absurd (let z : ◌≡◌ {A = ℕ} 0 1 = cc in let b : ⊥ = omega arith in b)

pub rising_rises : (e : ℕ) (ps : List (ℕ × ℕ)) → Rising e ps → rises e ps ≡ true
rising_rises e [] h = refl
rising_rises e (p ∷ ps) h = rw (le-leb e p.0 h.0, lt-ltb p.0 p.1 h.1) (rising_rises p.1 ps h.2)

-- ---- whether a memory holds a state

module _ (m : List ℕ) where
  pub state_many : most < get_or m count_at 0 → false ≡ is_state m
  unfolding is_state
  state_many h = rw (lt-leb (get_or m count_at 0) most h)

  pub state_few : (r : Bool) → get_or m count_at 0 ≤ most → r ≡ rises 0 (ranges_in m) → r ≡ is_state m
  unfolding is_state
  state_few r h e = rw (le-leb (get_or m count_at 0) most h) e

  pub is_state_lem : is_state m ≡ true → (get_or m count_at 0 ≤ most) × Rising 0 (ranges_in m)
  unfolding is_state
  is_state_lem e = go (leb (get_or m count_at 0) most) refl e
    where
      go : (c : Bool) → leb (get_or m count_at 0) most ≡ c → (c && rises 0 (ranges_in m)) ≡ true → (get_or m count_at 0 ≤ most) × Rising 0 (ranges_in m)
      go true l k = (leb-true _ _ l, rises_rising 0 (ranges_in m) k)
      go false l k = absurd (let z : ◌≡◌ {A = ℕ} 0 1 = cc in let b : ⊥ = omega arith in b)

-- ---- the memory of a state

abbrev zeros : ℕ → List ℕ
zeros n = replicate n 0

drop_zeros : (k j : ℕ) → drop k (zeros (k + j)) ≡ zeros j
drop_zeros zero j = ap zeros (zero-add j)
drop_zeros (suc k) j = ap (λ (n : ℕ). drop (suc k) (zeros n)) (suc-add k j) ∙ drop_zeros k j

flat_numbers : (rs : List Run) → flat false rs ≡ pair_numbers (spans rs)
flat_numbers [] = refl
flat_numbers (range a b l ∷ rs) = ap (λ (x : List ℕ). a ∷ b ∷ x) (flat_numbers rs)

numbers_length : (ps : List (ℕ × ℕ)) → length (pair_numbers ps) ≡ 2 * length ps
numbers_length [] = refl
numbers_length (p ∷ ps) = let e = numbers_length ps in let k : suc (suc (length (pair_numbers ps))) ≡ 2 * suc (length ps) = omega arith in k

twos_numbers : (ps : List (ℕ × ℕ)) → twos (pair_numbers ps) ≡ ps
twos_numbers [] = refl
twos_numbers (p ∷ ps) = ap (λ (x : List (ℕ × ℕ)). p ∷ x) (twos_numbers ps)

-- the ranges and the zeros behind them
abbrev front : List (ℕ × ℕ) → List ℕ
front ps = pair_numbers ps ++ replicate (count_at - 2 * length ps) 0

front_length : (ps : List (ℕ × ℕ)) → length ps ≤ most → length (front ps) ≡ count_at
front_length ps h =
    length-append (pair_numbers ps) (replicate (count_at - 2 * length ps) 0)
    ∙ (let k : length (pair_numbers ps) + length (replicate (count_at - 2 * length ps) 0) ≡ count_at = omega (arith, numbers_length ps, length-replicate {A = ℕ} (count_at - 2 * length ps) 0) in k)

pub memory_front : (s : State) → memory_of s ≡ front s.ranges ++ (length s.ranges ∷ first_numbers s.first)
unfolding memory_of
memory_front s = sym (append_assoc (pair_numbers s.ranges) (replicate (count_at - 2 * length s.ranges) 0) (length s.ranges ∷ first_numbers s.first))

-- ranges laid into zeros, and zeros behind them
laid_zeros : (rs : List Run) → length rs ≤ most → laid false (zeros state_size) 0 rs ≡ front (spans rs) ++ zeros 4
laid_zeros rs h =
    let n : length (spans rs) ≡ length rs = length_spans rs in
    let e : state_size ≡ 2 * length rs + (count_at - 2 * length rs + 4) = omega arith in
    let room : 2 * length rs ≤ length (zeros state_size) = omega (arith, length-replicate {A = ℕ} state_size 0) in
    laid_all false (zeros state_size) rs room
    ∙ ap₂ (λ (x y : List ℕ). x ++ y) (flat_numbers rs)
    (ap (λ (k : ℕ). drop (2 * length rs) (zeros k)) e
    ∙ drop_zeros (2 * length rs) (count_at - 2 * length rs + 4)
    ∙ sym (replicate-append-replicate {A = ℕ} (count_at - 2 * length rs) 4 0))
    ∙ sym (append_assoc (pair_numbers (spans rs)) (zeros (count_at - 2 * length rs)) (zeros 4))
    ∙ ap (λ (k : ℕ). (pair_numbers (spans rs) ++ zeros (count_at - 2 * k)) ++ zeros 4) (sym n)

head_stored : (f : Option FirstNak) (p : List ℕ) (j : ℕ) → length p ≡ count_at → head_put (p ++ zeros 4) j f ≡ p ++ (j ∷ first_numbers f)
head_stored (Some f) p j q =
    let vs : List ℕ = j ∷ 1 ∷ f.source ∷ f.sequence ∷ [] in
    let room : count_at + 4 ≤ length (p ++ zeros 4) = omega (arith, length-append p (zeros 4)) in
    let end : length (p ++ zeros 4) ≤ count_at + 4 = omega (arith, length-append p (zeros 4)) in
    sets-eq vs (p ++ zeros 4) count_at room
    ∙ ap₂ (λ (x y : List ℕ). (x ++ vs) ++ y) (take_at p (zeros 4) count_at q) (drop_of_length-le (p ++ zeros 4) end)
    ∙ append-nil (p ++ vs)
head_stored None p j q = set_at p 0 (0 ∷ 0 ∷ 0 ∷ []) j count_at q

-- with its head stored, that is the memory of the state
pub put_memory : (rs : List Run) (f : Option FirstNak) (n : ℕ) → n ≡ length rs → n ≤ most
    → head_put (laid false (zeros state_size) 0 rs) n f ≡ memory_of (record { ranges = spans rs; first = f })
put_memory rs f n e h =
    let k : length rs ≤ most = omega arith in
    let l : length (spans rs) ≤ most = omega (arith, length_spans rs) in
    ap₂ (λ (x : List ℕ) (j : ℕ). head_put x j f) (laid_zeros rs k) (e ∙ sym (length_spans rs))
    ∙ head_stored f (front (spans rs)) (length (spans rs)) (front_length (spans rs) l)
    ∙ sym (memory_front (record { ranges = spans rs; first = f }))

-- zeros are the fresh state
pub fresh_state : FreshState
unfolding memory_of
fresh_state = replicate-append-replicate {A = ℕ} count_at 4 0

-- ---- and back

module _ (s : State) (h : length s.ranges ≤ most) where
  at_head : (k : ℕ) → get_or (memory_of s) (count_at + k) 0 ≡ get_or (length s.ranges ∷ first_numbers s.first) k 0
  at_head k =
      ap (λ (x : List ℕ). get_or x (count_at + k) 0) (memory_front s)
      ∙ ap (λ (j : ℕ). get_or (front s.ranges ++ (length s.ranges ∷ first_numbers s.first)) (j + k) 0) (sym (front_length s.ranges h))
      ∙ get_or-append-add (front s.ranges) (length s.ranges ∷ first_numbers s.first) k 0

  pub count_back : get_or (memory_of s) count_at 0 ≡ length s.ranges
  count_back = at_head 0

  pub ranges_back : ranges_in (memory_of s) ≡ s.ranges
  unfolding memory_of
  ranges_back =
      ap (λ (n : ℕ). twos (take (2 * n) (memory_of s))) count_back
      ∙ ap twos
      (take_at (pair_numbers s.ranges) (replicate (count_at - 2 * length s.ranges) 0 ++ (length s.ranges ∷ first_numbers s.first))
      (2 * length s.ranges) (numbers_length s.ranges))
      ∙ twos_numbers s.ranges

  pub first_back : first_in (memory_of s) ≡ s.first
  unfolding first_in
  first_back = rw (at_head 1, at_head 2, at_head 3) (go s.first)
    where
      go : (f : Option FirstNak) → (if eqb (get_or (first_numbers f) 0 0) 0 then None else Some (record { source = get_or (first_numbers f) 1 0; sequence = get_or (first_numbers f) 2 0 })) ≡ f
      go (Some f) = refl
      go None = refl

  pub state_back : state_in (memory_of s) ≡ s
  unfolding state_in
  state_back = λ i. record { ranges = ranges_back i; first = first_back i }

  -- it is a state, where its ranges rise
  pub back_is_state : Rising 0 s.ranges → is_state (memory_of s) ≡ true
  back_is_state r = sym (state_few (memory_of s) true (rw count_back h) (sym (ap (rises 0) ranges_back ∙ rising_rises 0 s.ranges r)))
