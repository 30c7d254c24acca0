-- `header::judge::judge_entity_width` meets its contract: the width is one, or that is the answer.
use mathlib.Core.Path.{sym, ◌∙◌}
use Rattle.header.proofs.Judging.{bad_entity, good_entity}
use Rattle.header.proofs.judge.judge_entity_width.Goals as goal

pub returns-then-not-is_width : goal.returns-then-not-is_width
returns-then-not-is_width c = bad_entity _ (sym c.is_width.ensures ∙ c.if-not-is_width.true)

pub returns : goal.returns
returns c = good_entity _ (sym c.is_width.ensures ∙ c.if-not-is_width.false)
