-- `header::condition::judge_condition` meets its contract: the four ranges of codes.
use native.Mathlib.Omega.{arith}
use Rattle.header.proofs.Conditions.{condition_low, condition_between, condition_high, condition_above}
use Rattle.header.proofs.condition.judge_condition.Goals as goal

pub returns-in_default : goal.returns-in_default
returns-in_default c = condition_between _ (omega arith) (omega arith)

pub returns-in_default-2 : goal.returns-in_default-2
returns-in_default-2 c = condition_above _ (omega arith)

pub returns-in-0-to-11 : goal.returns-in-0-to-11
returns-in-0-to-11 c = condition_low _ (omega arith)

pub returns-in-0-to-11-2 : goal.returns-in-0-to-11-2
returns-in-0-to-11-2 c = condition_high _ (omega arith) (omega arith)
