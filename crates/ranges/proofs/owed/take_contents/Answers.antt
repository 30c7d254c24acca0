-- `ranges::owed::take_contents` meets its contract: the tag says which entry it is.
use native.Mathlib.Omega.{arith}
use Rattle.ranges.proofs.Entering.{tag_heard, tag_unknown, tag_length, tag_resent}
use Rattle.ranges.proofs.owed.take_contents.Goals as goal

pub returns-in-1 : goal.returns-in-1
returns-in-1 c = tag_heard _ _ _ _ c.in-1.is _ _ c.heard.ensures

pub returns-in-2 : goal.returns-in-2
returns-in-2 c = tag_resent _ _ _ _ (λ e. omega arith) c.in-2.is c.if-contents-eq-RESENT_LEN.true _ _ c.resent.ensures

pub returns-in_default : goal.returns-in_default
returns-in_default c = tag_length _ _ _ _ (λ e. omega arith) c.in-2.is c.if-contents-eq-RESENT_LEN.false

pub returns-in_default-2 : goal.returns-in_default-2
returns-in_default-2 c = tag_unknown _ _ _ _ (λ e. omega arith) (λ e. omega arith)
