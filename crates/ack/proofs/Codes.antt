-- The acknowledged directive and the transaction status: each exit, and that they fit their bits.
-- Assumes nothing.
use Prim.Native.Nat.{ℕ, ◌+◌, ◌*◌, ◌%◌, ◌≤◌, ◌<◌}
use mathlib.Core.Path.{◌≡◌, refl, sym, ap, ◌∙◌}
use mathlib.Core.Bool.{Bool, true, false, ◌||◌}
use mathlib.Core.List.{List, [], ◌∷◌}
use native.Mathlib.Omega.{arith}
use lib.Dec.{eqb}
use borrow.Author.Tests.{ne_eqb, eqb-true, not-false}
use Rattle.std.specs.Prelude.{if◌then◌else◌}
use Rattle.fields.specs.Answer.{accepted, told, all_of}
use Rattle.fields.proofs.Judging.{Passed, judged_passed, passed_on, refused_on, told_is_refused}
use Rattle.header.specs.Condition.{reserved_condition}
use Rattle.header.proofs.Conditions.{condition_small}
use Rattle.ack.specs.declared.status.TransactionStatus.{TransactionStatus}
use Rattle.ack.specs.declared.status.TransactionStatus.TheVariants.{Undefined, Active, Terminated, Unrecognized}
use Rattle.ack.specs.Ack.{is_acked, subtype_of, status_bits, status_of, not_allowed, code_tests}

module _ (c : ℕ) where
  pub acked_eof : c ≡ 4 → accepted tt ≡ all_of (not_allowed c ∷ [])
  unfolding is_acked
  acked_eof e = rw e

  pub acked_finished : c ≡ 5 → accepted tt ≡ all_of (not_allowed c ∷ [])
  unfolding is_acked
  acked_finished e = rw e

  pub acked_other : (c ≡ 4 → ⊥) → (c ≡ 5 → ⊥) → told (17 ∷ []) ≡ all_of (not_allowed c ∷ [])
  unfolding is_acked
  acked_other n m = rw (told_is_refused 17 _ refl, ne_eqb c 4 n, ne_eqb c 5 m)

-- ---- both tests: the condition's refusal, or behind it the directive decides

module _ (condition acked : ℕ) where
  pub refused_condition : (ns : List ℕ) → told ns ≡ all_of (reserved_condition condition ∷ []) → told ns ≡ all_of (code_tests condition acked)
  unfolding code_tests
  refused_condition ns e = refused_on ns (reserved_condition condition ∷ []) (not_allowed acked ∷ []) tt tt e

  pub acked_decides : accepted tt ≡ all_of (reserved_condition condition ∷ []) → all_of (not_allowed acked ∷ []) ≡ all_of (code_tests condition acked)
  unfolding code_tests
  acked_decides e = sym (passed_on (reserved_condition condition ∷ []) (not_allowed acked ∷ []) tt (judged_passed (reserved_condition condition ∷ []) e))

-- ---- what passed fits its bits, and comes back from them

acked_small : (c : ℕ) → is_acked c ≡ true → c ≤ 5
unfolding is_acked
acked_small c e = go (eqb c 4) (eqb c 5) refl refl e
  where
    go : (x y : Bool) → eqb c 4 ≡ x → eqb c 5 ≡ y → (x || y) ≡ true → c ≤ 5
    go true y p q d = let k : c ≡ 4 = eqb-true c 4 p in omega arith
    go false true p q d = let k : c ≡ 5 = eqb-true c 5 q in omega arith
    go false false p q d = let z : ◌≡◌ {A = ℕ} 0 1 = cc in absurd (omega arith)

pub record Fits (condition acked : ℕ) : Type 0 where
  pub condition_low : condition < 16
  pub acked_low : acked ≤ 5

pub codes_fit : (condition acked : ℕ) → Passed (code_tests condition acked) → Fits condition acked
unfolding code_tests
codes_fit condition acked p = record { condition_low = condition_small condition (not-false _ p.0); acked_low = acked_small acked (not-false _ p.1.0) }

pub subtype_small : (c : ℕ) → subtype_of c ≤ 1
unfolding subtype_of
subtype_small c = go (eqb c 5)
  where
    go : (x : Bool) → (if x then 1 else 0) ≤ 1
    go true = omega arith
    go false = omega arith

pub status_small : (t : TransactionStatus) → status_bits t ≤ 3
status_small Undefined = omega arith
status_small Active = omega arith
status_small Terminated = omega arith
status_small Unrecognized = omega arith

of_bits : (t : TransactionStatus) → status_of (status_bits t) ≡ t
unfolding status_of
of_bits Undefined = refl
of_bits Active = refl
of_bits Terminated = refl
of_bits Unrecognized = refl

pub status_back : (t : TransactionStatus) (n : ℕ) → status_of ((n * 16 + status_bits t) % 4) ≡ t
status_back t n =
    let l = status_small t in
    let e : (n * 16 + status_bits t) % 4 ≡ status_bits t = omega arith in
    ap status_of e ∙ of_bits t

-- ---- what the proofs of these functions cite

pub ruleset for_judge_codes = (refused_condition, acked_decides)
