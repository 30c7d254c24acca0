-- What the waiting costs: behind a short reading the next one has a named length more, of which there are four.
-- Assumes nothing.
use Prim.Native.Nat.{ℕ, zero, suc, ◌+◌, ◌-◌, ◌≤◌, ◌<◌}
use mathlib.Core.Path.{◌≡◌, refl, sym, ap, subst, ◌∙◌}
use mathlib.Core.Bool.{Bool, true, false}
use mathlib.Core.List.{List, [], ◌∷◌, ◌++◌}
use native.Mathlib.Nat.{le_refl, le_trans}
use native.Mathlib.Numerals.{add-one}
use native.Mathlib.Omega.{arith}
use lib.Dec.{ltb}
use lib.ListN.{length, take, drop, length-append, length-set, length-drop, take-append-drop}
use lib.Seq.{sets, length-sets, length-take-le}
use borrow.Author.Tests.{ltb-true, ltb-false}
use Rattle.fields.specs.Answer.{Answer, accepted, short, refused}
use Rattle.fields.specs.Staged.{run}
use Rattle.fields.proofs.Waiting.{reached, reached_most, reached_fewer, reached_more, reached_kept}
use Rattle.nak.specs.declared.Nak.{Nak}
use Rattle.receiver.specs.declared.Receiver.{Receiver}
use Rattle.receiver.specs.Receiving.{window_length, status, put, state_of, Outcomes, more, nak, refusal, Call, call}
use Rattle.receiver.specs.Within.{short_readings}
use Rattle.receiver.specs.Demands.{FewShorts, and_on, all_shorts, FewAPdu}
use Rattle.receiver.proofs.Reading.{in_stages, in_stages_lem, stages_four}
use Rattle.receiver.proofs.Calls.{Waits, waits_for, behind, fills_by, call_nak, call_refused, call_none, call_one, call_window, more_by}
use Rattle.receiver.proofs.Shorts.{none_nak, none_refused, one_short, one_more_short}

-- how many of the named lengths are in the window
unfoldable there : List ℕ → ℕ → ℕ
there w at = reached in_stages (take at w)

at_most : (w : List ℕ) (at : ℕ) → there w at ≤ 4
unfolding there
at_most w at = reached_most in_stages 4 (take at w) stages_four

module _ (w : List ℕ) (at l n : ℕ) (k : length w ≡ window_length) (e : status (state_of w at) ≡ short l n) where
  staged_short : run in_stages (take at w) ≡ short l n
  unfolding status
  staged_short = sym (in_stages_lem (take at w)) ∙ e

  waits : Waits at n
  unfolding status
  waits = waits_for w at l n k (sym e)

  -- one is lacking where the reading is short
  fewer : there w at < 4
  unfolding there
  fewer = reached_fewer in_stages 4 (take at w) l n stages_four staged_short

  -- with the bytes up to the need there is one more
  one_more_there : (xs : List ℕ) → at + length xs ≡ n → there w at < there (sets w at xs) n
  unfolding there
  one_more_there xs p =
      let v = waits in
      let t : take n (sets w at xs) ≡ take at w ++ xs = ap (λ (i : ℕ). take i (sets w at xs)) (sym p) ∙ behind w at xs (omega (arith, v.within)) in
      let j : length (take at w ++ xs) ≡ n = length-append (take at w) xs
      ∙ ap (λ (i : ℕ). i + length xs) (length-take-le at w (omega (arith, v.within, v.below)))
      ∙ p in
      subst (λ (s : List ℕ). there w at < reached in_stages s) (sym t) (reached_more in_stages (take at w) xs l n staged_short (omega arith))

  -- and with fewer no less
  kept_there : (xs : List ℕ) → at + length xs ≤ n → there w at ≤ there (sets w at xs) (at + length xs)
  unfolding there
  kept_there xs p =
      let v = waits in
      subst (λ (s : List ℕ). there w at ≤ reached in_stages s) (sym (behind w at xs (omega (arith, v.within)))) (reached_kept in_stages (take at w) xs)

-- ---- in a call

-- the bytes of f in the window, up to the length n
abbrev filled_to : ℕ → Receiver → List ℕ → Receiver
filled_to n r f = state_of (sets r.window r.filled (take (n - r.filled) f)) n

-- a turn
record Turn (r : Receiver) (f : List ℕ) (n : ℕ) : Type 0 where
  same : length (filled_to n r f).window ≡ window_length
  less : length (drop (n - r.filled) f) < length f
  up : there r.window r.filled < there (filled_to n r f).window n
  one : short_readings r f ≡ suc (short_readings (filled_to n r f) (drop (n - r.filled) f))
  goes : call r f ≡ more_by (n - r.filled) (call (filled_to n r f) (drop (n - r.filled) f))

turn : (r : Receiver) (f : List ℕ) (l n : ℕ) → length r.window ≡ window_length → status r ≡ short l n → n - r.filled ≤ length f → Turn r f n
turn r f l n k e h =
    let w = r.window in
    let at = r.filled in
    let v = waits w at l n k e in
    let j = n - at in
    let m : length (take j f) ≡ j = length-take-le j f h in
    let p : at + length (take j f) ≡ n = ap (λ (i : ℕ). at + i) m ∙ (let q : at + (n - at) ≡ n = omega (arith, v.below) in q) in
    let p' : at + j ≡ n = omega (arith, v.below) in
    record {
      same = length-sets w at (take j f) ∙ k;
      less = omega (arith, length-drop j f, v.below);
      up = one_more_there w at l n k e (take j f) p;
      one = ap (short_readings r) (sym (take-append-drop j f)) ∙ one_more_short w at l n e (take j f) (drop j f) v.below p;
      goes =
          ap (call r) (sym (take-append-drop j f)) ∙ fills_by (take j f) w at l n j m k e (drop j f) (omega arith)
          ∙ ap (λ (i : ℕ). more_by j (call (state_of (sets w at (take j f)) i) (drop j f))) p';
    }

-- what is there stays there
abbrev Kept : Receiver → Call → Type 0
Kept r c = c.gives ≡ more → there r.window r.filled ≤ there c.leaves.window c.leaves.filled

kept : (f : List ℕ) (r : Receiver) → length r.window ≡ window_length → Kept r (call r f)
unfolding put
kept [] r k = go (status r) refl
  where
    go : (o : Answer Nak) → status r ≡ o → Kept r (call r [])
    go (accepted n) e = rw (call_nak r [] n e) (λ d. let z : ◌≡◌ {A = ℕ} 0 1 = cc in absurd (let b : ⊥ = omega arith in b))
    go (short l n) e = rw (call_none r l n e) (λ d. le_refl _)
    go (refused ns) e = rw (call_refused r [] ns e) (λ d. let z : ◌≡◌ {A = ℕ} 0 1 = cc in absurd (let b : ⊥ = omega arith in b))
kept (b ∷ bs) r k = go (status r) refl (kept bs (put r b) (length-set r.window r.filled b ∙ k))
  where
    go : (o : Answer Nak) → status r ≡ o → Kept (put r b) (call (put r b) bs) → Kept r (call r (b ∷ bs))
    go (accepted n) e rest = rw (call_nak r (b ∷ bs) n e) (λ d. let z : ◌≡◌ {A = ℕ} 0 1 = cc in absurd (let b : ⊥ = omega arith in b))
    go (short l n) e rest =
        let v = waits r.window r.filled l n k e in
        let one : there r.window r.filled ≤ there (put r b).window (put r b).filled =
        rw add-one at (kept_there r.window r.filled l n k e (b ∷ []) (omega (arith, v.below))) in
        rw (call_one r b bs l n e) (λ d. le_trans one (rest d))
    go (refused ns) e rest = rw (call_refused r (b ∷ bs) ns e) (λ d. let z : ◌≡◌ {A = ℕ} 0 1 = cc in absurd (let b : ⊥ = omega arith in b))

-- the readings that are short and the named lengths that were there are at most four; and where more is wanted, at most one more than the named lengths that are there then
record Counts (r : Receiver) (f : List ℕ) : Type 0 where
  few : short_readings r f + there r.window r.filled ≤ 4
  once : (call r f).gives ≡ more → short_readings r f + there r.window r.filled ≤ suc (there (call r f).leaves.window (call r f).leaves.filled)

-- of fragments below m bytes
abbrev Before : ℕ → Type 0
Before m = (q : Receiver) (g : List ℕ) → length g < m → length q.window ≡ window_length → Counts q g

counts : (m : ℕ) → Before m
counts zero r f h k = absurd (let b : ⊥ = omega arith in b)
counts (suc m) r f h k = go (status r) refl (λ q g j i. counts m q g j i)
  where
    by : (l n : ℕ) → status r ≡ short l n → (c : Bool) → ltb (length f) (n - r.filled) ≡ c → Before m → Counts r f
    by l n e true c again =
        let v = waits r.window r.filled l n k e in
        let z = ltb-true (length f) (n - r.filled) c in
        let o : short_readings r f ≡ 1 = one_short r.window r.filled l n e f (omega (arith, v.below)) in
        record { few = omega (arith, o, fewer r.window r.filled l n k e); once = λ d. omega (arith, o, kept f r k d) }
    by l n e false c again =
        let t = turn r f l n k e (ltb-false (length f) (n - r.filled) c) in
        let q = filled_to n r f in
        let g = drop (n - r.filled) f in
        let rest = again q g (omega (arith, t.less)) t.same in
        record {
          few = omega (arith, t.one, t.up, rest.few);
          once = λ d.
              let same : (call r f).leaves ≡ (call q g).leaves = ap (λ (x : Call). x.leaves) t.goes in
              let d' : (call q g).gives ≡ more = sym (ap (λ (x : Call). x.gives) t.goes) ∙ d in
              rw same (omega (arith, t.one, t.up, rest.once d'));
        }

    go : (o : Answer Nak) → status r ≡ o → Before m → Counts r f
    go (accepted n) e again =
        record {
          few = omega (arith, none_nak r f n e, at_most r.window r.filled);
          once =
              λ d. let y : nak n ≡ more = sym (ap (λ (x : Call). x.gives) (call_nak r f n e))
              ∙ d in let z : ◌≡◌ {A = ℕ} 0 1 = cc in absurd (let b : ⊥ = omega arith in b);
        }
    go (short l n) e again = by l n e (ltb (length f) (n - r.filled)) refl again
    go (refused ns) e again =
        record {
          few = omega (arith, none_refused r f ns e, at_most r.window r.filled);
          once =
              λ d. let y : refusal ns ≡ more = sym (ap (λ (x : Call). x.gives) (call_refused r f ns e))
              ∙ d in let z : ◌≡◌ {A = ℕ} 0 1 = cc in absurd (let b : ⊥ = omega arith in b);
        }

in_call : (r : Receiver) (f : List ℕ) → length r.window ≡ window_length → Counts r f
in_call r f k = counts (suc (length f)) r f (omega arith) k

pub few_shorts : FewShorts
few_shorts r f k = omega (arith, (in_call r f k).few)

-- ---- in the calls of a PDU

abbrev FewFor : Receiver → List ℕ → List (List ℕ) → ℕ → Type 0
FewFor r f fs rest = short_readings r f + rest + there r.window r.filled ≤ 4 + length fs

a_pdu : (r : Receiver) (f : List ℕ) (fs : List (List ℕ)) → length r.window ≡ window_length
    → FewFor r f fs (and_on (call r f).gives (all_shorts (call r f).leaves fs))
a_pdu r f [] k = go (call r f).gives
  where
    go : (o : Outcomes) → FewFor r f [] (and_on o 0)
    go more = omega (arith, (in_call r f k).few)
    go (nak n) = omega (arith, (in_call r f k).few)
    go (refusal ns) = omega (arith, (in_call r f k).few)
a_pdu r f (g ∷ gs) k = go (call r f).gives refl (a_pdu (call r f).leaves g gs (call_window f r ∙ k))
  where
    q : Receiver
    q = (call r f).leaves

    go : (o : Outcomes) → (call r f).gives ≡ o → FewFor q g gs (and_on (call q g).gives (all_shorts (call q g).leaves gs))
        → FewFor r f (g ∷ gs) (and_on o (all_shorts q (g ∷ gs)))
    go more e rest = omega (arith, (in_call r f k).once e, rest)
    go (nak n) e rest = omega (arith, (in_call r f k).few)
    go (refusal ns) e rest = omega (arith, (in_call r f k).few)

pub few_a_pdu : FewAPdu
few_a_pdu r f fs k = omega (arith, a_pdu r f fs k)
