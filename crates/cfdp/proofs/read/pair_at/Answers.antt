-- `cfdp::read::pair_at` meets its contract: an index below the count of whole pairs has its pair, and the cursor shows it in its bytes.
use mathlib.Core.Path.{sym, ◌∙◌}
use Rattle.cfdp.proofs.Pairs.{no_pair, found_pair, not_end}
use Rattle.cfdp.proofs.read.pair_at.Goals as goal

pub returns-then-area-size : goal.returns-then-area-size
returns-then-area-size c =
    no_pair c.args.large c.args.area.now c.args.index _ _ c.from_bit-file.ensures c.size_width-size.ensures.0 c.if-area-size.true

pub returns-in_err-found : goal.returns-in_err-found
returns-in_err-found c =
    absurd
    (not_end c.args.large c.args.area.now c.args.index _ _ c.from_bit-file.ensures c.size_width-size.ensures.0 c.if-area-size.false
    (sym c.in_err-found.was ∙ c.next.ensures))

pub returns : goal.returns
returns c =
    found_pair c.args.large c.args.area.now c.args.index _ _ c.from_bit-file.ensures c.size_width-size.ensures.0 c.if-area-size.false _
    (sym c.in_ok-found.was ∙ c.next.ensures)
