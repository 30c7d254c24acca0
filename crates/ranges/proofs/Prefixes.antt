-- After every prefix of a log the state is the longest ranges of the bytes owed: one more entry at the end of a list changes what is owed as it changes the state.
-- Assumes nothing.
use Prim.Native.Nat.{ℕ, zero, suc, ◌+◌, ◌*◌, ◌≤◌, ◌<◌}
use mathlib.Core.Path.{◌≡◌, refl, sym, ap, ap₂, ◌∙◌}
use mathlib.Core.Bool.{Bool, true, false, not, ◌&&◌, ◌||◌, and-false}
use mathlib.Core.List.{List, [], ◌∷◌, ◌++◌, append-nil, append_assoc}
use mathlib.Core.Logic.{◌⊎◌, inl, inr}
use native.Mathlib.Omega.{arith}
use lib.Dec.{lit<}
use lib.ListN.{length, take, drop, get_or-replicate}
use borrow.Author.Tests.{lt-ltb, le-ltb, ltb-false}
use Rattle.std.specs.Prelude.{if◌then◌else◌}
use Rattle.fields.specs.Answer.{Answer, accepted, short, refused, when}
use Rattle.fields.proofs.Judging.{passed}
use Rattle.ranges.specs.Runs.{runs}
use Rattle.ranges.specs.Pairs.{asks, Rising, twos, spans, in_or_not}
use Rattle.ranges.specs.Merging.{largest}
use Rattle.ranges.specs.Owing.{Entry, heard, resent, asks_for, resends, resent_by, owes, owed_after, ranges_of, State, most, in_order, differs_from, too_many, after, judging}
use Rattle.ranges.specs.Memory.{count_at, state_size, ranges_in, state_in, memory_of}
use Rattle.ranges.specs.Log.{reading_entry, entry_size, entering, Ran, go_on, run_for, running}
use Rattle.ranges.specs.OwedDemands.{fresh_memory, and_more, entries_for, entries_before, stands_at, OwesThePrefix, AsksExactly, NoneShorter, StateAgain}
use Rattle.ranges.proofs.Spans.{runs_like, in_ask, in_rise}
use Rattle.ranges.proofs.Memory.{ranges_back, back_is_state}
use Rattle.ranges.proofs.Tests.{eq?}
use Rattle.ranges.proofs.Runs.{runs_none, runs_suc, in_front_none}
use Rattle.ranges.proofs.Running.{took, taken_whole, for_no_entry, for_none, for_some}
use Rattle.ranges.proofs.Fewest.{fewest}

-- ---- one entry more

resent_later : (es : List Entry) (e : Entry) (b : ℕ) → resent_by (es ++ (e ∷ [])) b ≡ (resent_by es b || resends e b)
resent_later [] e b = go (resends e b)
  where
    go : (c : Bool) → (c || false) ≡ c
    go true = refl
    go false = refl
resent_later (d ∷ es) e b = ap (λ (x : Bool). resends d b || x) (resent_later es e b) ∙ go (resends d b) (resent_by es b) (resends e b)
  where
    go : (x y z : Bool) → (x || (y || z)) ≡ (x || y || z)
    go true y z = refl
    go false y z = refl

-- what is owed after it
owes_later : (es : List Entry) (e : Entry) (b : ℕ) → owes (es ++ (e ∷ [])) b ≡ owed_after (owes es) e b
owes_later [] (heard source sequence ps) b = go (asks_for (heard source sequence ps) b)
  where
    go : (c : Bool) → (c && true || false) ≡ (c && true)
    go true = refl
    go false = refl
owes_later [] (resent p) b = refl
owes_later (d ∷ es) e b =
    ap₂ (λ (x y : Bool). asks_for d b && not x || y) (resent_later es e b) (owes_later es e b)
    ∙ go (asks_for d b) (resent_by es b) (resends e b) (owes es b) (asks_for e b)
  where
    go : (x y z o a : Bool) → (x && not (y || z) || (o || a) && not z) ≡ ((x && not y || o || a) && not z)
    go true true z o a = refl
    go true false true o a = and-false (o || a)
    go true false false o a = refl
    go false y z o a = refl

-- ranges depend on the bytes alone
ranges_like : (g h : ℕ → Bool) → ((b : ℕ) → b < largest → g b ≡ h b) → ranges_of g ≡ ranges_of h
unfolding ranges_of
ranges_like g h same = ap spans (runs_like (in_or_not g) (in_or_not h) 0 largest (λ b p q. ap (λ (c : Bool). if c then 1 else 0) (same b (omega arith))))

pub ranges_ask : (g : ℕ → Bool) (b : ℕ) → b < largest → asks (ranges_of g) b ≡ g b
unfolding ranges_of
ranges_ask g b h = in_ask g largest b h

pub ranges_rise : (g : ℕ → Bool) → Rising 0 (ranges_of g)
unfolding ranges_of
ranges_rise g = in_rise g largest

ranges_later : (es : List Entry) (e : Entry) → ranges_of (owed_after (asks (ranges_of (owes es))) e) ≡ ranges_of (owes (es ++ (e ∷ [])))
ranges_later es e =
    ranges_like (owed_after (asks (ranges_of (owes es))) e) (owes (es ++ (e ∷ [])))
    (λ b h. ap (λ (c : Bool). (c || asks_for e b) && not (resends e b)) (ranges_ask (owes es) b h) ∙ sym (owes_later es e b))

-- ---- an entry that was taken

pub record Judged (s : State) (e : Entry) (t : State) : Type 0 where
  pub is : t ≡ after s e
  pub few : length t.ranges ≤ most

pub judged : (s : State) (at : ℕ) (e : Entry) (t : State) → accepted t ≡ judging s at e → Judged s e t
unfolding judging
judged s at e t k =
    let p = passed (when (not (in_order e)) (18 ∷ at ∷ []) ∷ when (differs_from s.first e) (19 ∷ []) ∷ too_many (after s e).ranges ∷ []) t (after s e) k in
    record { is = p.1; few = rw p.1 (ltb-false most (length (after s e).ranges) p.0.1.1.0) }

after_ranges : (s : State) (e : Entry) → (after s e).ranges ≡ ranges_of (owed_after (asks s.ranges) e)
unfolding after
after_ranges s e = refl

ranges_in_lem : (m : List ℕ) → (state_in m).ranges ≡ ranges_in m
unfolding state_in
ranges_in_lem m = refl

pub taken_ranges : (m : List ℕ) (e : Entry) (t : State) → Judged (state_in m) e t → ranges_in (memory_of t) ≡ ranges_of (owed_after (asks (ranges_in m)) e)
taken_ranges m e t j =
    ranges_back t j.few
    ∙ ap (λ (x : State). x.ranges) j.is
    ∙ after_ranges (state_in m) e
    ∙ ap (λ (ps : List (ℕ × ℕ)). ranges_of (owed_after (asks ps) e)) (ranges_in_lem m)

pub state_again : StateAgain
state_again at s m t k =
    let w = took at s m t k in
    let j = judged (state_in m) at w.entry t w.judged in
    back_is_state t j.few
    (rw (ap (λ (x : State). x.ranges) j.is ∙ after_ranges (state_in m) w.entry) (ranges_rise (owed_after (asks (state_in m).ranges) w.entry)))

-- ---- a run

-- it never stands before where it began
stands_ahead : (n at : ℕ) (s m : List ℕ) → at ≤ (run_for n at s m).stop.1
stands_ahead zero at s m = rw (for_no_entry at s m) (omega arith)
stands_ahead (suc n) at s m = go (eq? (length s) 0) (λ (t : State). stands_ahead n (at + entry_size s) (drop (entry_size s) s) (memory_of t))
  where
    on : (o : Answer State) → ((t : State) → at + entry_size s ≤ (run_for n (at + entry_size s) (drop (entry_size s) s) (memory_of t)).stop.1)
        → at ≤ (go_on o at m (λ t. run_for n (at + entry_size s) (drop (entry_size s) s) (memory_of t))).stop.1
    on (accepted t) more = let k = more t in omega arith
    on (short l k) more = omega arith
    on (refused ns) more = omega arith

    go : (length s ≡ 0) ⊎ (length s ≡ 0 → ⊥)
        → ((t : State) → at + entry_size s ≤ (run_for n (at + entry_size s) (drop (entry_size s) s) (memory_of t)).stop.1)
        → at ≤ (run_for (suc n) at s m).stop.1
    go (inl e) more = rw (for_none (suc n) at s m e) (omega arith)
    go (inr e) more = rw (for_some n at s m e) (on (entering at s m) more)

-- the entries before the place where it stands
no_entries : (n at : ℕ) (s : List ℕ) → entries_for n at at s ≡ []
unfolding entries_for
no_entries zero at s = refl
no_entries (suc n) at s = rw (le-ltb at at (let k : at ≤ at = omega arith in k))

an_entry : (n stop at : ℕ) (s : List ℕ) (e : Entry) → at < stop → accepted e ≡ reading_entry at s
    → entries_for (suc n) stop at s ≡ e ∷ entries_for n stop (at + entry_size s) (drop (entry_size s) s)
unfolding entries_for
an_entry n stop at s e h k = rw (lt-ltb at stop h) (ap (λ (x : Answer Entry). and_more x (entries_for n stop (at + entry_size s) (drop (entry_size s) s))) (sym k))

-- after entries es, a run goes on with those of the bytes s
abbrev Owes : ℕ → ℕ → List ℕ → List Entry → Ran → Type 0
Owes n at s es r = ranges_in r.memory ≡ ranges_of (owes (es ++ entries_for n r.stop.1 at s))

stays : (n at : ℕ) (s m : List ℕ) (es : List Entry) (a : Answer (Unit {0})) → ranges_in m ≡ ranges_of (owes es)
    → Owes n at s es (record { stop = (a, at); memory = m })
stays n at s m es a h = h ∙ ap (λ (x : List Entry). ranges_of (owes x)) (sym (ap (λ (x : List Entry). es ++ x) (no_entries n at s) ∙ append-nil es))

-- and from the next entry on, whatever is taken
abbrev More : ℕ → ℕ → List ℕ → Type 0
More n at s =
    (ds : List Entry) (t : State) → ranges_in (memory_of t) ≡ ranges_of (owes ds)
    → Owes n (at + entry_size s) (drop (entry_size s) s) ds (run_for n (at + entry_size s) (drop (entry_size s) s) (memory_of t))

prefix : (n at : ℕ) (s m : List ℕ) (es : List Entry) → ranges_in m ≡ ranges_of (owes es) → Owes n at s es (run_for n at s m)
prefix zero at s m es h = rw (for_no_entry at s m) (stays zero at s m es (accepted tt) h)
prefix (suc n) at s m es h = go (eq? (length s) 0) (λ (ds : List Entry) (t : State). prefix n (at + entry_size s) (drop (entry_size s) s) (memory_of t) ds)
  where
    on : (o : Answer State) → entering at s m ≡ o → More n at s
        → Owes (suc n) at s es (go_on o at m (λ t. run_for n (at + entry_size s) (drop (entry_size s) s) (memory_of t)))
    on (accepted t) k more =
        let w = took at s m t k in
        let j = judged (state_in m) at w.entry t w.judged in
        let r = run_for n (at + entry_size s) (drop (entry_size s) s) (memory_of t) in
        let ahead = stands_ahead n (at + entry_size s) (drop (entry_size s) s) (memory_of t) in
        let size = taken_whole at s m t k in
        let one : ranges_in (memory_of t) ≡ ranges_of (owes (es ++ (w.entry ∷ []))) = taken_ranges m w.entry t j
        ∙ ap (λ (ps : List (ℕ × ℕ)). ranges_of (owed_after (asks ps) w.entry)) h
        ∙ ranges_later es w.entry in
        more (es ++ (w.entry ∷ [])) t one
        ∙ ap (λ (x : List Entry). ranges_of (owes x))
        (append_assoc es (w.entry ∷ []) (entries_for n r.stop.1 (at + entry_size s) (drop (entry_size s) s))
        ∙ ap (λ (x : List Entry). es ++ x) (sym (an_entry n r.stop.1 at s w.entry (omega (arith, size.1)) w.read)))
    on (short l k) e more = stays (suc n) at s m es (short l k) h
    on (refused ns) e more = stays (suc n) at s m es (refused ns) h

    go : (length s ≡ 0) ⊎ (length s ≡ 0 → ⊥) → More n at s → Owes (suc n) at s es (run_for (suc n) at s m)
    go (inl e) more = rw (for_none (suc n) at s m e) (stays (suc n) at s m es (accepted tt) h)
    go (inr e) more = rw (for_some n at s m e) (on (entering at s m) refl more)

-- ---- from the fresh state

runs_nothing : (f : ℕ → ℕ) (at n : ℕ) → ((b : ℕ) → f b ≡ 0) → runs f at n ≡ []
runs_nothing f at zero h = runs_none f at
runs_nothing f at (suc n) h = runs_suc f at n ∙ in_front_none at (at + 1) (f at) (runs f (at + 1) n) (h at) ∙ runs_nothing f (at + 1) n h

owes_nothing : ranges_of (owes []) ≡ []
unfolding ranges_of
owes_nothing = ap spans (runs_nothing (in_or_not (owes [])) 0 largest (λ b. refl))

fresh_ranges : ranges_in fresh_memory ≡ ranges_of (owes [])
fresh_ranges = ap (λ (n : ℕ). twos (take (2 * n) fresh_memory)) (get_or-replicate {A = ℕ} state_size count_at 0 0 (lit< tt)) ∙ sym owes_nothing

pub owes_the_prefix : OwesThePrefix
unfolding running entries_before
owes_the_prefix log = prefix (length log) 0 log fresh_memory [] fresh_ranges

pub asks_exactly : AsksExactly
asks_exactly log b h = ap (λ (ps : List (ℕ × ℕ)). asks ps b) (owes_the_prefix log) ∙ ranges_ask (owes (entries_before (stands_at log) log)) b h

pub none_shorter : NoneShorter
none_shorter log qs same =
    let e = owes_the_prefix log in
    rw e (fewest (owes (entries_before (stands_at log) log)) qs (λ b. same b ∙ ap (λ (ps : List (ℕ × ℕ)). asks ps b) e))
