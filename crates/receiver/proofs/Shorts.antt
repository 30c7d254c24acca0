-- Laws of the count of short readings. A reading that is not short ends it. Behind a short one the next is of the named length, if the fragment has its bytes.
-- Assumes nothing.
use Prim.Native.Nat.{ℕ, suc, ◌+◌, ◌-◌, ◌≤◌, ◌<◌, zero-le}
use mathlib.Core.Path.{◌≡◌, sym, ap, ap₂, ◌∙◌}
use mathlib.Core.List.{List, [], ◌∷◌, ◌++◌, append-nil}
use native.Mathlib.Nat.{add-zero}
use native.Mathlib.Omega.{arith}
use lib.ListN.{length, take, drop, set, length-drop, take-append-drop}
use lib.Seq.{sets, length-take-le, drop-drop}
use borrow.Author.Tests.{lt-ltb, le-ltb}
use Rattle.fields.specs.Answer.{accepted, short, refused}
use Rattle.fields.specs.Staged.{run}
use Rattle.nak.specs.declared.Nak.{Nak}
use Rattle.receiver.specs.declared.Receiver.{Receiver}
use Rattle.receiver.specs.declared.Counted.{Counted}
use Rattle.receiver.specs.Receiving.{receiving, status, put, state_of, Call, call_of}
use Rattle.receiver.specs.Within.{shorts_at, short_readings}

-- ---- with fewer bytes than the named length nothing is read, and with them the next reading is made

not_yet : (xs ys w : List ℕ) (at n : ℕ) → at + length xs ≤ n → shorts_at n (state_of w at) (xs ++ ys) ≡ shorts_at n (state_of (sets w at xs) (at + length xs)) ys
unfolding put
not_yet [] ys w at n h = rw (add-zero at)
not_yet (x ∷ xs) ys w at n h =
    let p : suc at + length xs ≡ at + suc (length xs) = omega arith in
    rw (lt-ltb at n (omega arith))
    (not_yet xs ys (set w at x) (suc at) n (omega arith) ∙ ap (λ (i : ℕ). shorts_at n (state_of (sets (set w at x) (suc at) xs) i) ys) p)

reads_now : (n : ℕ) (r : Receiver) (f : List ℕ) → n ≤ r.filled → shorts_at n r f ≡ short_readings r f
unfolding short_readings
reads_now n r [] h = rw (le-ltb r.filled n h, le-ltb r.filled 0 zero-le)
reads_now n r (b ∷ bs) h = rw (le-ltb r.filled n h, le-ltb r.filled 0 zero-le)

-- ---- the first reading

pub none_nak : (r : Receiver) (f : List ℕ) (n : Nak) → status r ≡ accepted n → short_readings r f ≡ 0
unfolding short_readings
none_nak r [] n e = rw (le-ltb r.filled 0 zero-le, e)
none_nak r (b ∷ bs) n e = rw (le-ltb r.filled 0 zero-le, e)

pub none_refused : (r : Receiver) (f ns : List ℕ) → status r ≡ refused ns → short_readings r f ≡ 0
unfolding short_readings
none_refused r [] ns e = rw (le-ltb r.filled 0 zero-le, e)
none_refused r (b ∷ bs) ns e = rw (le-ltb r.filled 0 zero-le, e)

module _ (w : List ℕ) (at l n : ℕ) (e : status (state_of w at) ≡ short l n) where
  -- a short one, and the fragment has fewer bytes than are wanted
  pub one_short : (f : List ℕ) → at + length f < n → short_readings (state_of w at) f ≡ 1
  unfolding short_readings put
  one_short [] h = rw (le-ltb at 0 zero-le, e)
  one_short (x ∷ xs) h =
      let none : shorts_at n (state_of (set w at x) (suc at)) xs ≡ 0 =
      ap (shorts_at n (state_of (set w at x) (suc at))) (sym (append-nil xs))
      ∙ not_yet xs [] (set w at x) (suc at) n (omega arith)
      ∙ rw (lt-ltb (suc at + length xs) n (omega arith)) in
      rw (le-ltb at 0 zero-le, e) (ap suc none)

  -- a short one, and it has them
  pub one_more_short : (xs ys : List ℕ) → at < n → at + length xs ≡ n
      → short_readings (state_of w at) (xs ++ ys) ≡ suc (short_readings (state_of (sets w at xs) n) ys)
  unfolding short_readings put
  one_more_short [] ys b p = absurd (let z : ⊥ = omega arith in z)
  one_more_short (x ∷ xs) ys b p =
      let i : suc at + length xs ≡ n = omega arith in
      let next : shorts_at n (state_of (set w at x) (suc at)) (xs ++ ys) ≡ short_readings (state_of (sets w at (x ∷ xs)) n) ys =
      not_yet xs ys (set w at x) (suc at) n (omega arith)
      ∙ ap (λ (j : ℕ). shorts_at n (state_of (sets w at (x ∷ xs)) j) ys) i
      ∙ reads_now n (state_of (sets w at (x ∷ xs)) n) ys (omega arith) in
      rw (le-ltb at 0 zero-le, e) (ap suc next)

-- ---- a call's end: what was handed over is given

pub at_end : (x y : Counted) (w : List ℕ) (whole : Call) (n : ℕ) → x ≡ y → call_of y.received w ≡ whole → y.shorts ≡ n
    → (call_of x.received w ≡ whole) × (x.shorts ≡ n)
at_end x y w whole n e a b = (ap (λ (z : Counted). call_of z.received w) e ∙ a, ap (λ (z : Counted). z.shorts) e ∙ b)

-- ---- a call in its loop: `shorts` readings were short, and with those that are to come there are as many as in the whole

module _ (w f : List ℕ) (at taken shorts whole : ℕ) (rest : shorts + short_readings (state_of w at) (drop taken f) ≡ whole) where
  pub all_nak : (n : Nak) → accepted n ≡ run receiving (take at w) → shorts ≡ whole
  unfolding status
  all_nak n s = sym (ap (λ (i : ℕ). shorts + i) (none_nak (state_of w at) (drop taken f) n (sym s)) ∙ add-zero shorts) ∙ rest

  pub all_refused : (ns : List ℕ) → refused ns ≡ run receiving (take at w) → shorts ≡ whole
  unfolding status
  all_refused ns s = sym (ap (λ (i : ℕ). shorts + i) (none_refused (state_of w at) (drop taken f) ns (sym s)) ∙ add-zero shorts) ∙ rest

  module _ (l n : ℕ) (s : short l n ≡ run receiving (take at w)) where
    pub all_more : at < n → length f - taken < n - at → shorts + 1 ≡ whole
    unfolding status
    all_more below a = sym (ap (λ (i : ℕ). shorts + i) (one_short w at l n (sym s) (drop taken f) (omega (arith, length-drop taken f)))) ∙ rest

    -- the bytes up to the named length go into the window
    module _ (next : ℕ) (w' : List ℕ) (p : next ≡ taken + (n - at)) (below : at < n) (a : n - at ≤ length f - taken) (e : w' ≡ sets w at (take (next - taken) (drop taken f))) where
      one_fewer : short_readings (state_of w at) (drop taken f) ≡ suc (short_readings (state_of w' n) (drop next f))
      unfolding status
      one_fewer =
          let j = next - taken in
          let xs = take j (drop taken f) in
          let m : length xs ≡ j = length-take-le j (drop taken f) (omega (arith, length-drop taken f)) in
          let o : taken + (next - taken) ≡ next = omega arith in
          ap (short_readings (state_of w at)) (sym (take-append-drop j (drop taken f)))
          ∙ one_more_short w at l n (sym s) xs (drop j (drop taken f)) below (omega (arith, m))
          ∙ ap suc (ap₂ (λ (x y : List ℕ). short_readings (state_of x n) y) (sym e) (drop-drop j taken f ∙ ap (λ (i : ℕ). drop i f) o))

      pub turn_counts : shorts + 1 + short_readings (state_of w' n) (drop next f) ≡ whole
      turn_counts = omega (arith, one_fewer, rest)

      pub turn_less : short_readings (state_of w' n) (drop next f) < short_readings (state_of w at) (drop taken f)
      turn_less = omega (arith, one_fewer)
