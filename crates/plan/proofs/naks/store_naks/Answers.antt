-- `plan::naks::store_naks` meets its contract. The loop's invariant: storing the NAKs that are left gives what is to be stored.
use mathlib.Core.Path.{◌≡◌, ap, ◌∙◌}
use Prim.Native.Nat.{ℕ, ◌+◌, ◌-◌, ◌*◌, ◌<◌}
use mathlib.Core.List.{[], ◌∷◌}
use native.Mathlib.Omega.{arith}
use lib.ListN.{length}
use lib.Seq.{sets, length-sets}
use Rattle.plan.proofs.Storing.{enough_more, naks_over, naks_last, naks_turn}
use Rattle.plan.proofs.naks.store_naks.Goals as goal

pub returns-then-naks-eq0 : goal.returns-then-naks-eq0
returns-then-naks-eq0 c = let a = c.args in naks_over a.requests.now a.naks a.most a.start a.«end» a.out.now 0 c.if-naks-eq0.true

pub loop-i-preserved : goal.loop-i-preserved
loop-i-preserved c =
    let l = c.loop-i in
    let a = c.args in
    let s = c.split_at.ensures in
    let more : 1 < a.naks - l.i = omega (arith, c.loop-i-test.true) in
    let m = enough_more (a.naks - l.i) a.most (length l.rest.now) more l.invariant.1 in
    let p = l.invariant.2 more in
    let d : a.naks - (l.i + 1) ≡ a.naks - l.i - 1 = omega arith in
    let q = ap length c.put_nak.ensures ∙ length-sets l.out (3 * l.i) (l.at ∷ _ ∷ a.most ∷ []) in (
      q ∙ l.invariant.0,
      omega (arith, m.1, s.back_len, ap (λ (x : ℕ). (x - 1) * a.most) d),
      λ k. p,
      naks_turn l.rest.now (a.naks - l.i) a.most l.at a.«end» l.out (3 * l.i) _ _ _ (3 * (l.i + 1)) _ s.front s.back d (omega arith) more p m.0 c.put_nak.ensures ∙ l.invariant.3,
    )

pub returns : goal.returns
returns c =
    let l = c.loop-i in
    let a = c.args in
    let e : 3 * (a.naks - 1) ≡ 3 * l.i = omega (arith, c.loop-i-test.false, l.auto.i-end) in
    c.put_nak-2.ensures
    ∙ ap (λ (x : ℕ). sets l.out x (l.at ∷ a.«end» ∷ length l.rest.now ∷ [])) e
    ∙ naks_last l.rest.now (a.naks - l.i) a.most l.at a.«end» l.out (3 * l.i) (omega (arith, c.loop-i-test.false, l.auto.i-end, c.if-naks-eq0.false))
    ∙ l.invariant.3
