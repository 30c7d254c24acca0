-- `plan::gaps::Scope::gaps` meets its contract. The arrays are the numbers.
use mathlib.Core.Path.{ap}
use Rattle.plan.specs.Gaps.{gaps}
use Rattle.plan.proofs.Arrays.{pairs_are}
use Rattle.plan.proofs.gaps.Scope.gaps.Goals as goal

pub returns : goal.returns
returns c = let s = c.args.self in ap (gaps s.start s.«end») (pairs_are _ _ c.as_chunks.ensures.front)
