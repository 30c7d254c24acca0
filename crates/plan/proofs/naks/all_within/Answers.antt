-- `plan::naks::all_within` meets its contract. All of the arrays.
use Rattle.std.proofs.Common.{rules, tests, get_or, ◌&&◌, ◌∙◌}
use lib.Dec.{leb}
use Rattle.std.proofs.lemmas.Iterator.{YieldsList-from_slice}
use Rattle.std.proofs.lemmas.Iterator.Search.{all_from_yields_List}
use Rattle.plan.proofs.Arrays.{all_lie}
use Rattle.plan.proofs.naks.all_within.Goals as goal

pub returns : goal.returns
returns c =
    let a = c.args in
    all_from_yields_List (λ x. leb a.start (get_or x 0 0) && leb (get_or x 1 0) a.«end») _ _ _ c.all.ensures.ran
    (YieldsList-from_slice a.requests.now (cc)) (λ x b q k. search (rules, tests))
    ∙ all_lie a.start a.«end» a.requests.now
