-- `plan::checker::accepted` meets its contract. What each of its tests says, one behind the other.
use Prim.Native.Nat.{ℕ, ◌%◌}
use mathlib.Core.Path.{◌≡◌, sym, ap, ap₂, ◌∙◌}
use mathlib.Core.Bool.{Bool, ◌&&◌}
use native.Mathlib.Omega.{arith}
use lib.Dec.{eqb}
use lib.ListN.{length}
use Rattle.ranges.specs.Pairs.{twos}
use Rattle.plan.specs.Plans.{threes, each_fits, each_within, scopes_join, accepts_numbers}
use Rattle.plan.specs.Gaps.{gaps, same_pairs}
use Rattle.plan.proofs.Accepting.{accept_is, chain}
use Rattle.plan.proofs.Arrays.{pairs_are, naks_are}
use Rattle.plan.proofs.checker.accepted.Goals as goal
use Rattle.plan.proofs.checker.accepted.Goals.{then-is_empty, else-is_empty, then-each_fits, else-each_fits, then-each_within, else-each_within, Joined-each_within}

fits : (c : Joined-each_within) → c.if-is_empty.value ≡ (eqb (length c.args.naks.now % 3) 0 && each_fits c.args.most (threes c.args.naks.now))
fits c =
    let k : Bool = each_fits c.args.most (threes c.args.naks.now) in
    let whole = c.is_empty.ensures ∙ ap (λ (n : ℕ). eqb n 0) c.as_chunks.ensures.back_len in
    elim c.if-is_empty.branch [
      | then-is_empty w ↦ w.value-is ∙ w.each_fits.ensures ∙ ap (each_fits c.args.most) (naks_are _ _ c.as_chunks.ensures.front) ∙ sym (ap (λ (b : Bool). b && k) (sym whole ∙ w.if-is_empty.true))
      | else-is_empty w ↦ w.value-is ∙ w.if-is_empty.false ∙ sym (ap (λ (b : Bool). b && k) (sym whole ∙ w.if-is_empty.false))
    ]

within : (c : Joined-each_within) → c.if-each_fits.value ≡ (c.if-is_empty.value && each_within (threes c.args.naks.now) (twos c.args.requests.now))
within c =
    let k : Bool = each_within (threes c.args.naks.now) (twos c.args.requests.now) in
    elim c.if-each_fits.branch [
      | then-each_fits w ↦ w.value-is ∙ w.each_within.ensures ∙ ap₂ each_within (naks_are _ _ c.as_chunks.ensures.front) (pairs_are _ _ c.as_chunks-2.ensures.front) ∙ sym (ap (λ (b : Bool). b && k) w.if-each_fits.true)
      | else-each_fits w ↦ w.value-is ∙ w.if-each_fits.false ∙ sym (ap (λ (b : Bool). b && k) w.if-each_fits.false)
    ]

same : (c : Joined-each_within) → c.if-each_within.value ≡ (c.if-each_fits.value && same_pairs (twos c.args.requests.now) (gaps c.args.scope.start c.args.scope.«end» (twos c.args.scope.received.now)))
same c =
    let k : Bool = same_pairs (twos c.args.requests.now) (gaps c.args.scope.start c.args.scope.«end» (twos c.args.scope.received.now)) in
    elim c.if-each_within.branch [
      | then-each_within w ↦ w.value-is ∙ w.are_gaps.ensures ∙ ap₂ same_pairs (pairs_are _ _ c.as_chunks-2.ensures.front) w.gaps.ensures ∙ sym (ap (λ (b : Bool). b && k) w.if-each_within.true)
      | else-each_within w ↦ w.value-is ∙ w.if-each_within.false ∙ sym (ap (λ (b : Bool). b && k) w.if-each_within.false)
    ]

-- the tests before the last, and it
together : (c : Joined-each_within)
    → accepts_numbers c.args.most c.args.scope.received.now c.args.scope.start c.args.scope.«end» c.args.requests.now c.args.naks.now
    ≡ (c.if-each_within.value && scopes_join c.args.scope.start c.args.scope.«end» (threes c.args.naks.now))
together c =
    let a = c.args in
    let s = a.scope in
    let f : Bool = each_fits a.most (threes a.naks.now) in
    let w : Bool = each_within (threes a.naks.now) (twos a.requests.now) in
    let g : Bool = same_pairs (twos a.requests.now) (gaps s.start s.«end» (twos s.received.now)) in
    let j : Bool = scopes_join s.start s.«end» (threes a.naks.now) in
    accept_is a.most s.received.now s.start s.«end» a.requests.now a.naks.now c.requires.0 (omega (arith, c.ranges.scope))
    (λ i. omega (arith, c.type_inv.requests i))
    ∙ chain (eqb (length a.naks.now % 3) 0) f w g j
    ∙ sym (ap (λ (b : Bool). b && j) (same c ∙ ap (λ (b : Bool). b && g) (within c ∙ ap (λ (b : Bool). b && w) (fits c))))

pub returns-then-are_gaps : goal.returns-then-are_gaps
returns-then-are_gaps c =
    let a = c.args in
    let k = c.scopes_join.ensures ∙ ap (scopes_join a.scope.start a.scope.«end») (naks_are _ _ c.as_chunks.ensures.front) in
    let t = together ((goal.at.returns-then-are_gaps c).Joined-each_within) in
    k ∙ sym (t ∙ ap (λ (b : Bool). b && scopes_join a.scope.start a.scope.«end» (threes a.naks.now)) c.if-are_gaps.true)

pub returns-else-are_gaps : goal.returns-else-are_gaps
returns-else-are_gaps c =
    let a = c.args in
    let t = together ((goal.at.returns-else-are_gaps c).Joined-each_within) in
    c.if-are_gaps.false ∙ sym (t ∙ ap (λ (b : Bool). b && scopes_join a.scope.start a.scope.«end» (threes a.naks.now)) c.if-are_gaps.false)
