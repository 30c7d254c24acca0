-- `nak::write::judge_pairs` meets its contract: the greatest count decides.
use Rattle.nak.proofs.Tests.{many_pairs, few_pairs}
use Rattle.nak.proofs.write.judge_pairs.Goals as goal

pub returns-then-most-pairs : goal.returns-then-most-pairs
returns-then-most-pairs c = many_pairs c.args.file c.args.pairs _ c.most_pairs-most.ensures c.if-most-pairs.true

pub returns : goal.returns
returns c = few_pairs c.args.file c.args.pairs _ c.most_pairs-most.ensures c.if-most-pairs.false
