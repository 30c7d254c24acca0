-- A plan of NAKs as an answer: how many requests it has, and how many NAKs; the plan itself stands in the lent numbers.
use Rattle.std.specs.Prelude.{ℕ, List, [], ◌∷◌}
use Rattle.plan.specs.declared.planner.Planned.{Planned}

abbrev pub plan_numbers : Planned → List ℕ
plan_numbers p = p.requests ∷ p.naks ∷ []
