-- `plan::gaps::are_gaps` meets its contract. The pairs of the requests beside the gaps.
use Rattle.std.proofs.Common.{◌≡◌, rules, tests, get_or, ap}
use Rattle.std.proofs.lemmas.Iterator.{YieldsList-from_slice, YieldsList-from_map}
use Rattle.std.proofs.lemmas.Iterator.Consumers.{YieldsList-at, YieldsList-from_first}
use Rattle.plan.specs.declared.gaps.Gaps.{Gaps}
use Rattle.plan.specs.Gaps.{gaps, pairs}
use Rattle.plan.proofs.GapLaws.{same_from_yields}
use Rattle.plan.proofs.gaps.are_gaps.Goals as goal

pub returns : goal.returns
returns c =
    let m = c.args.missing in
    same_from_yields (λ (x y : Gaps). y ≡ x) m c.eq.result c.eq.ensures.ran
    (YieldsList-from_map _ (λ x. (get_or x 0 0, get_or x 1 0)) (YieldsList-at c.map.ensures.source (YieldsList-from_slice c.args.requests.now (cc))) c.map.ensures.closure (λ x r q k. search (rules, tests)))
    (λ it e. YieldsList-from_first (λ x. x) (λ (s : Gaps). gaps s.at s.stop (pairs s.received.now)) (gaps m.at m.stop (pairs m.received.now))
    (ap (λ (s : Gaps). gaps s.at s.stop (pairs s.received.now)) {x = it} {y = m} e))
    (λ x y. search (rules, tests))
