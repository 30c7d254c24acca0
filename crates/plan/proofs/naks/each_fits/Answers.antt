-- `plan::naks::each_fits` meets its contract. All of the arrays.
use Rattle.std.proofs.Common.{rules, tests, get_or, ◌∙◌}
use lib.Dec.{leb}
use Rattle.std.proofs.lemmas.Iterator.{YieldsList-from_slice}
use Rattle.std.proofs.lemmas.Iterator.Search.{all_from_yields_List}
use Rattle.plan.proofs.Arrays.{all_fit}
use Rattle.plan.proofs.naks.each_fits.Goals as goal

pub returns : goal.returns
returns c =
    let a = c.args in
    all_from_yields_List (λ x. leb (get_or x 2 0) a.most) _ _ _ c.all.ensures.ran (YieldsList-from_slice a.naks.now (cc))
    (λ x b q k. search (rules, tests))
    ∙ all_fit a.most a.naks.now
