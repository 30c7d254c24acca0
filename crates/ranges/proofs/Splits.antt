-- A log split between entries: the first entry of the first part is the first of the whole, and what follows it is the rest of the part with the other behind.
-- Assumes nothing.
use Prim.Native.Nat.{ℕ, zero, suc, ◌+◌, ◌≤◌, ◌<◌}
use mathlib.Core.Path.{◌≡◌, refl, sym, ap, ap₂, ◌∙◌}
use mathlib.Core.List.{List, [], ◌∷◌, ◌++◌}
use mathlib.Core.Logic.{⊎_elim}
use native.Mathlib.Omega.{arith}
use native.Mathlib.Nat.{add-zero}
use lib.ListN.{length, drop, length-append, length-drop}
use lib.Seq.{drop-append-le, take-append_seam}
use Rattle.std.specs.Prelude.{if◌then◌else◌, Result, Ok, Err}
use Rattle.fields.specs.Answer.{Answer, accepted, short, refused, and_then}
use Rattle.tlv.specs.declared.Form.TheVariants.{LongTlv}
use Rattle.tlv.specs.declared.Field.{Field}
use Rattle.tlv.specs.declared.Cut.{Cut}
use Rattle.tlv.specs.Reading.{stop_at, field_at, field_in, value_of}
use Rattle.tlv.specs.Walking.{first_cut, reach}
use Rattle.tlv.specs.Parts.{further_on}
use Rattle.tlv.proofs.Reading.{whole?, field_whole, is_field}
use Rattle.tlv.proofs.Walking.{reach_on, reach_here}
use Rattle.tlv.proofs.Shown.{uncut_reach, reach_uncut}
use Rattle.tlv.proofs.Parts.{part_shows, value_before, whole_stays}
use Rattle.ranges.specs.Owing.{State, judging}
use Rattle.ranges.specs.Memory.{state_in, is_state, memory_of}
use Rattle.ranges.specs.Log.{contents_of, entry_in, reading_entry, entry_size, entering, Ran, go_on, running}
use Rattle.ranges.specs.OwedDemands.{then_run, SplitsBetweenEntries}
use Rattle.ranges.proofs.Tests.{eq?}
use Rattle.ranges.proofs.Running.{go_on_like, running_none, running_some, taken_whole}

-- ---- whole entries, the first and the rest

module _ (xs : List ℕ) (uncut : first_cut LongTlv xs 0 ≡ Ok tt) (some : length xs ≡ 0 → ⊥) where
  pub first_whole : entry_size xs ≤ length xs
  first_whole = ⊎_elim (λ u. u) (λ u. absurd (none u)) (whole? LongTlv xs 0)
    where
      none : length xs < stop_at LongTlv xs 0 → ⊥
      none u = let r = uncut_reach LongTlv xs 0 uncut in let z = reach_here LongTlv xs 0 u in let k : length xs ≡ 0 = omega arith in some k

  pub rest_uncut : first_cut LongTlv (drop (entry_size xs) xs) 0 ≡ Ok tt
  rest_uncut =
      let r : length xs ≤ reach LongTlv xs (entry_size xs) = rw (reach_on LongTlv xs 0 first_whole) (uncut_reach LongTlv xs 0 uncut) in
      back (first_cut LongTlv (drop (entry_size xs) xs) 0) (sym (part_shows LongTlv xs (entry_size xs) first_whole).cut ∙ reach_uncut LongTlv xs (entry_size xs) r)
    where
      back : (c : Result (Unit {0}) Cut) → further_on (entry_size xs) c ≡ Ok tt → c ≡ Ok tt
      back (Ok t) e = refl
      back (Err cut) e = absurd (let z : ◌≡◌ {A = ℕ} 0 1 = cc in let b : ⊥ = omega arith in b)

-- ---- with bytes behind

module _ (at : ℕ) (xs ys m : List ℕ) (h : entry_size xs ≤ length xs) where
  here : field_in LongTlv xs 0 ≡ Ok (field_at LongTlv xs 0)
  here = sym (field_whole LongTlv xs 0 h)

  there : field_in LongTlv (xs ++ ys) 0 ≡ Ok (field_at LongTlv xs 0)
  there = whole_stays LongTlv xs ys 0 (field_at LongTlv xs 0) here

  pub same_size : entry_size (xs ++ ys) ≡ entry_size xs
  same_size = ap (λ (f : Field). f.stop) (is_field LongTlv (xs ++ ys) 0 (field_at LongTlv xs 0) there).1

  same_value_lem : value_of (field_at LongTlv xs 0) (xs ++ ys) ≡ value_of (field_at LongTlv xs 0) xs
  same_value_lem =
      sym (value_before (xs ++ ys) (length xs) (field_at LongTlv xs 0) (omega (arith, length-append xs ys)) h)
      ∙ ap (value_of (field_at LongTlv xs 0)) (take-append_seam xs ys)

  same_read : reading_entry at (xs ++ ys) ≡ reading_entry at xs
  unfolding reading_entry
  same_read =
      ap (entry_in at (xs ++ ys)) there
      ∙ ap (contents_of at (field_at LongTlv xs 0).tag) same_value_lem
      ∙ sym (ap (entry_in at xs) here)

  pub same_entry : entering at (xs ++ ys) m ≡ entering at xs m
  unfolding entering
  same_entry = ap (λ (o : Answer _). if is_state m then and_then o (judging (state_in m) at) else refused (23 ∷ [])) same_read

-- ---- one part and then the other

then_on : (o : Answer State) (at : ℕ) (m : List ℕ) (f : State → Ran) (more : List ℕ → Ran)
    → then_run (go_on o at m f) more ≡ go_on o at m (λ t. then_run (f t) more)
then_on (accepted t) at m f more = refl
then_on (short l n) at m f more = refl
then_on (refused ns) at m f more = refl

-- what is to be shown of two parts
abbrev Splits : ℕ → List ℕ → List ℕ → List ℕ → Type 0
Splits at xs ys m = running at (xs ++ ys) m ≡ then_run (running at xs m) (running (at + length xs) ys)

no_bytes : (xs : List ℕ) → length xs ≡ 0 → xs ≡ []
no_bytes [] e = refl
no_bytes (x ∷ xs) e = absurd (let b : ⊥ = omega arith in b)

splits_none : (at : ℕ) (xs ys m : List ℕ) → length xs ≡ 0 → Splits at xs ys m
splits_none at xs ys m e =
    rw (no_bytes xs e)
    (ap (λ (k : ℕ). running k ys m) (sym (add-zero at)) ∙ sym (ap (λ (r : Ran). then_run r (running (at + 0) ys)) (running_none at [] m refl)))

splits_some : (at : ℕ) (xs ys m : List ℕ) → first_cut LongTlv xs 0 ≡ Ok tt → (length xs ≡ 0 → ⊥)
    → ((t : State) → length (drop (entry_size xs) xs) < length xs → Splits (at + entry_size xs) (drop (entry_size xs) xs) ys (memory_of t)) → Splits at xs ys m
splits_some at xs ys m uncut some more =
    let all : length (xs ++ ys) ≡ 0 → ⊥ = λ e. some (omega (arith, length-append xs ys)) in
    let w = first_whole xs uncut some in
    let size = same_size at xs ys m w in
    let rest : List ℕ → State → Ran = λ s t. running (at + entry_size s) (drop (entry_size s) s) (memory_of t) in
    let sum : at + entry_size xs + length (drop (entry_size xs) xs) ≡ at + length xs = omega (arith, length-drop (entry_size xs) xs) in
    running_some at (xs ++ ys) m all
    ∙ ap (λ (o : Answer State). go_on o at m (rest (xs ++ ys))) (same_entry at xs ys m w)
    ∙ go_on_like (entering at xs m) at m (rest (xs ++ ys)) (λ t. then_run (rest xs t) (running (at + length xs) ys))
    (λ t e. ap₂ (λ (k : ℕ) (s : List ℕ). running (at + k) s (memory_of t)) size (ap (λ (k : ℕ). drop k (xs ++ ys)) size ∙ drop-append-le (entry_size xs) xs ys w) ∙ more t (omega (arith, length-drop (entry_size xs) xs, (taken_whole at xs m t e).1)) ∙ ap (λ (k : ℕ). then_run (rest xs t) (running k ys)) sum)
    ∙ sym (then_on (entering at xs m) at m (rest xs) (running (at + length xs) ys))
    ∙ sym (ap (λ (r : Ran). then_run r (running (at + length xs) ys)) (running_some at xs m some))

splits : (n at : ℕ) (xs ys m : List ℕ) → length xs ≤ n → first_cut LongTlv xs 0 ≡ Ok tt → Splits at xs ys m
splits zero at xs ys m h uncut = splits_none at xs ys m (omega arith)
splits (suc n) at xs ys m h uncut =
    ⊎_elim (λ e. splits_none at xs ys m e)
    (λ e. splits_some at xs ys m uncut e (λ t l. splits n (at + entry_size xs) (drop (entry_size xs) xs) ys (memory_of t) (omega arith) (rest_uncut xs uncut e)))
    (eq? (length xs) 0)

pub splits_between_entries : SplitsBetweenEntries
splits_between_entries at xs ys m uncut = splits (length xs) at xs ys m (omega arith) uncut
