-- `ranges::tape::place` meets its contract: a place that lies in the numbers is stored to, and no other.
use Rattle.ranges.proofs.Laying.{no_place, place_three, place_two}
use Rattle.ranges.proofs.tape.place.Goals as goal

pub returns-then-out-size : goal.returns-then-out-size
returns-then-out-size c = no_place _ _ _ _ _ c.width-size.ensures.0 c.if-out-size.true

pub returns-then-labelled : goal.returns-then-labelled
returns-then-labelled c = place_three _ _ _ _ _ _ _ c.if-labelled.true c.width-size.ensures.0 c.if-out-size.false

pub returns-else-labelled : goal.returns-else-labelled
returns-else-labelled c = place_two _ _ _ _ _ _ _ c.if-labelled.false c.width-size.ensures.0 c.if-out-size.false
