-- Laws of calls: what a state says comes first, and bytes below the named length are all waited for with the same need.
-- Assumes nothing.
use Prim.Native.Nat.{ℕ, suc, ◌+◌, ◌-◌, ◌≤◌, ◌<◌, zero-le, suc-le-suc}
use mathlib.Core.Path.{◌≡◌, refl, sym, ap, ap₂, ◌∙◌}
use mathlib.Core.List.{List, [], ◌∷◌, ◌++◌}
use native.Mathlib.Nat.{zero-add, add-zero}
use native.Mathlib.Numerals.{add-one}
use native.Mathlib.Omega.{arith}
use lib.ListN.{length, take, drop, set, length-take, length-drop, length-set, length-append, take-append-drop, drop_of_length-le}
use lib.Seq.{sets, sets-eq, take_at, length-take-le, drop-drop}
use Rattle.fields.specs.Answer.{Answer, accepted, short, refused}
use Rattle.fields.specs.Staged.{run}
use Rattle.nak.specs.declared.Nak.{Nak}
use Rattle.receiver.specs.declared.Receiver.{Receiver}
use Rattle.receiver.specs.Receiving.{window_length, receiving, status, put, begun, state_of, more, nak, refusal, Call, one_more, call}
use Rattle.receiver.specs.Demands.{TakenInside}
use Rattle.receiver.proofs.Reading.{needs_in_window, receiving_demand3}

-- ---- what a state says comes first

pub call_nak : (r : Receiver) (f : List ℕ) (n : Nak) → status r ≡ accepted n → call r f ≡ record { taken = 0; gives = nak n; leaves = begun r }
unfolding call
call_nak r [] n e = rw e
call_nak r (b ∷ bs) n e = rw e

pub call_refused : (r : Receiver) (f ns : List ℕ) → status r ≡ refused ns → call r f ≡ record { taken = 0; gives = refusal ns; leaves = r }
unfolding call
call_refused r [] ns e = rw e
call_refused r (b ∷ bs) ns e = rw e

pub call_none : (r : Receiver) (l n : ℕ) → status r ≡ short l n → call r [] ≡ record { taken = 0; gives = more; leaves = r }
unfolding call
call_none r l n e = rw e

pub call_one : (r : Receiver) (b : ℕ) (bs : List ℕ) (l n : ℕ) → status r ≡ short l n → call r (b ∷ bs) ≡ one_more (call (put r b) bs)
unfolding call
call_one r b bs l n e = rw e

-- a call keeps the window's length
pub call_window : (f : List ℕ) (r : Receiver) → length (call r f).leaves.window ≡ length r.window
unfolding put begun
call_window [] r = go (status r) refl
  where
    go : (o : Answer Nak) → status r ≡ o → length (call r []).leaves.window ≡ length r.window
    go (accepted n) e = rw (call_nak r [] n e)
    go (short l n) e = rw (call_none r l n e)
    go (refused ns) e = rw (call_refused r [] ns e)
call_window (b ∷ bs) r = go (status r) refl (call_window bs (put r b))
  where
    go : (o : Answer Nak) → status r ≡ o → length (call (put r b) bs).leaves.window ≡ length (put r b).window
        → length (call r (b ∷ bs)).leaves.window ≡ length r.window
    go (accepted n) e rest = rw (call_nak r (b ∷ bs) n e)
    go (short l n) e rest = rw (call_one r b bs l n e) (rest ∙ length-set r.window r.filled b)
    go (refused ns) e rest = rw (call_refused r (b ∷ bs) ns e)

-- and takes bytes of its fragment alone
pub taken_inside : TakenInside
taken_inside r [] = go (status r) refl
  where
    go : (o : Answer Nak) → status r ≡ o → (call r []).taken ≤ 0
    go (accepted n) e = rw (call_nak r [] n e) zero-le
    go (short l n) e = rw (call_none r l n e) zero-le
    go (refused ns) e = rw (call_refused r [] ns e) zero-le
taken_inside r (b ∷ bs) = go (status r) refl (taken_inside (put r b) bs)
  where
    go : (o : Answer Nak) → status r ≡ o → (call (put r b) bs).taken ≤ length bs → (call r (b ∷ bs)).taken ≤ suc (length bs)
    go (accepted n) e rest = rw (call_nak r (b ∷ bs) n e) zero-le
    go (short l n) e rest = rw (call_one r b bs l n e) (suc-le-suc rest)
    go (refused ns) e rest = rw (call_refused r (b ∷ bs) ns e) zero-le

-- ---- a state that waits: its bytes are fewer than the need, and the need is in the window

pub record Waits (at n : ℕ) : Type 0 where
  pub below : at < n
  pub within : n ≤ window_length

pub waits_for : (w : List ℕ) (at l n : ℕ) → length w ≡ window_length → short l n ≡ run receiving (take at w) → Waits at n
waits_for w at l n k e =
    let b = receiving_demand3.below (take at w) l n (sym e) in
    let m = needs_in_window (take at w) l n (sym e) in
    record { below = omega (arith, length-take at w); within = m }

-- the window with bytes behind those that were there
pub behind : (w : List ℕ) (at : ℕ) (xs : List ℕ) → at + length xs ≤ length w → take (at + length xs) (sets w at xs) ≡ take at w ++ xs
behind w at xs k =
    ap (take (at + length xs)) (sets-eq xs w at k)
    ∙ take_at (take at w ++ xs) (drop (at + length xs) w) (at + length xs)
    (omega (arith, length-append (take at w) xs, length-take-le at w (omega arith)))

-- below the named length the need stays
pub still_waits : (w : List ℕ) (at : ℕ) (xs : List ℕ) (l n : ℕ) → length w ≡ window_length → status (state_of w at) ≡ short l n → at + length xs < n
    → status (state_of (sets w at xs) (at + length xs)) ≡ short (at + length xs) n
unfolding status
still_waits w at xs l n k e h =
    let m = needs_in_window (take at w) l n e in
    let j : length (take at w ++ xs) ≡ at + length xs = length-append (take at w) xs ∙ ap (λ (i : ℕ). i + length xs) (length-take-le at w (omega arith)) in
    ap (run receiving) (behind w at xs (omega arith))
    ∙ receiving_demand3.waits (take at w) xs l n e (omega arith)
    ∙ ap (λ (i : ℕ). short i n) j

-- ---- a call that takes bytes

-- k bytes more
abbrev pub more_by : ℕ → Call → Call
more_by k c = record { taken = k + c.taken; gives = c.gives; leaves = c.leaves }

pub more_none : (c : Call) → more_by 0 c ≡ c
more_none c = rw (zero-add c.taken)

pub more_more : (j k : ℕ) (c : Call) → more_by j (more_by k c) ≡ more_by (j + k) c
more_more j k c = let e : j + (k + c.taken) ≡ j + k + c.taken = omega arith in ap (λ (t : ℕ). record { taken = t; gives = c.gives; leaves = c.leaves }) e

one_more_lem : (c : Call) → one_more c ≡ more_by 1 c
one_more_lem c = let e : suc c.taken ≡ 1 + c.taken = omega arith in ap (λ (t : ℕ). record { taken = t; gives = c.gives; leaves = c.leaves }) e

one_more_by : (k : ℕ) (c : Call) → one_more (more_by k c) ≡ more_by (suc k) c
one_more_by k c = let e : suc (k + c.taken) ≡ suc k + c.taken = omega arith in ap (λ (t : ℕ). record { taken = t; gives = c.gives; leaves = c.leaves }) e

-- up to the named length the bytes are all taken
pub fills : (xs : List ℕ) (w : List ℕ) (at : ℕ) (ys : List ℕ) (l n : ℕ) → length w ≡ window_length → status (state_of w at) ≡ short l n → at + length xs ≤ n
    → call (state_of w at) (xs ++ ys) ≡ more_by (length xs) (call (state_of (sets w at xs) (at + length xs)) ys)
unfolding put
fills [] w at ys l n k e h = rw add-zero (sym (more_none _))
fills (x ∷ []) w at ys l n k e h = call_one (state_of w at) x ys l n e ∙ one_more_lem _ ∙ rw add-one
fills (x ∷ y ∷ xs) w at ys l n k e h =
    let s : status (state_of (set w at x) (suc at)) ≡ short (suc at) n = rw add-one at (still_waits w at (x ∷ []) l n k e (omega arith)) in
    let p : suc at + suc (length xs) ≡ at + suc (suc (length xs)) = omega arith in
    call_one (state_of w at) x (y ∷ (xs ++ ys)) l n e
    ∙ ap one_more (fills (y ∷ xs) (set w at x) (suc at) ys (suc at) n (length-set w at x ∙ k) s (omega arith))
    ∙ one_more_by (suc (length xs)) _
    ∙ ap (λ (i : ℕ). more_by (suc (suc (length xs))) (call (state_of (sets (set w at x) (suc at) (y ∷ xs)) i) ys)) p

-- the same of j bytes
module _ (xs w : List ℕ) (at l n j : ℕ) (m : length xs ≡ j) (k : length w ≡ window_length) (e : status (state_of w at) ≡ short l n) where
  pub fills_by : (ys : List ℕ) → at + j ≤ n → call (state_of w at) (xs ++ ys) ≡ more_by j (call (state_of (sets w at xs) (at + j)) ys)
  fills_by ys h = rw (← m) (fills xs w at ys l n k e (omega arith))

  waits_by : at + j < n → status (state_of (sets w at xs) (at + j)) ≡ short (at + j) n
  waits_by h = rw (← m) (still_waits w at xs l n k e (omega arith))

-- ---- a call in its loop: `taken` bytes of the fragment f went into the window w, in which `at` bytes are there; the call goes on from here as the whole does

module _ (w f : List ℕ) (at taken : ℕ) (whole : Call) (rest : more_by taken (call (state_of w at) (drop taken f)) ≡ whole) where
  pub gives_nak : (n : Nak) → accepted n ≡ run receiving (take at w) → record { taken = taken; gives = nak n; leaves = state_of w 0 } ≡ whole
  unfolding status begun
  gives_nak n s = sym (ap (more_by taken) (call_nak (state_of w at) (drop taken f) n (sym s)) ∙ rw (add-zero taken)) ∙ rest

  pub gives_refusal : (ns : List ℕ) → refused ns ≡ run receiving (take at w) → record { taken = taken; gives = refusal ns; leaves = state_of w at } ≡ whole
  unfolding status
  gives_refusal ns s = sym (ap (more_by taken) (call_refused (state_of w at) (drop taken f) ns (sym s)) ∙ rw (add-zero taken)) ∙ rest

  module _ (k : length w ≡ window_length) (inside : taken ≤ length f) (l n : ℕ) (s : short l n ≡ run receiving (take at w)) where
    -- j bytes more, up to the named length
    stored : (j : ℕ) (w' : List ℕ) → j ≤ length f - taken → at + j ≤ n → w' ≡ sets w at (take j (drop taken f))
        → more_by (taken + j) (call (state_of w' (at + j)) (drop (taken + j) f)) ≡ whole
    unfolding status
    stored j w' a b e =
        let xs = take j (drop taken f) in
        let m : length xs ≡ j = length-take-le j (drop taken f) (omega (arith, length-drop taken f)) in
        let g : call (state_of w at) (drop taken f) ≡ more_by j (call (state_of (sets w at xs) (at + j)) (drop j (drop taken f))) =
        ap (call (state_of w at)) (sym (take-append-drop j (drop taken f))) ∙ fills_by xs w at l n j m k (sym s) (drop j (drop taken f)) b in
        sym (more_more taken j (call (state_of w' (at + j)) (drop (taken + j) f)))
        ∙ ap (λ (c : Call). more_by taken (more_by j c)) (ap₂ (λ (x y : List ℕ). call (state_of x (at + j)) y) e (sym (drop-drop j taken f)))
        ∙ ap (more_by taken) (sym g)
        ∙ rest

    pub gives_more : (w' : List ℕ) → length f - taken < n - at → w' ≡ sets w at (take (length f - taken) (drop taken f))
        → record { taken = length f; gives = more; leaves = state_of w' (at + (length f - taken)) } ≡ whole
    unfolding status
    gives_more w' a e =
        let j = length f - taken in
        let xs = take j (drop taken f) in
        let m : length xs ≡ j = length-take-le j (drop taken f) (omega (arith, length-drop taken f)) in
        let t : taken + j + 0 ≡ length f = omega arith in
        let s' : status (state_of w' (at + j)) ≡ short (at + j) n = rw e (waits_by xs w at l n j m k (sym s) (omega arith)) in
        let d : drop (taken + j) f ≡ [] = drop_of_length-le f {i = taken + j} (omega arith) in
        sym
        (ap (λ (ys : List ℕ). more_by (taken + j) (call (state_of w' (at + j)) ys)) d
        ∙ ap (more_by (taken + j)) (call_none (state_of w' (at + j)) (at + j) n s')
        ∙ ap (λ (i : ℕ). record { taken = i; gives = more; leaves = state_of w' (at + j) }) t)
        ∙ stored j w' (omega arith) (omega arith) e

    pub turn : (next : ℕ) (w' : List ℕ) → next ≡ taken + (n - at) → at < n → n - at ≤ length f - taken → w' ≡ sets w at (take (next - taken) (drop taken f))
        → more_by next (call (state_of w' n) (drop next f)) ≡ whole
    turn next w' p below a e =
        let i : at + (next - taken) ≡ n = omega arith in
        let o : taken + (next - taken) ≡ next = omega arith in
        rw (i, o) at (stored (next - taken) w' (omega arith) (omega arith) e)
