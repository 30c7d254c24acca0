-- `header::write::put_identifier` meets its contract: whichever width was found, it is the one that was asked for.
use Rattle.header.proofs.Writing.{put_by_width}
use Rattle.header.proofs.write.put_identifier.Goals as goal

pub returns-then-width-eq1 : goal.returns-then-width-eq1
returns-then-width-eq1 c = put_by_width _ _ _ _ _ _ c.if-width-eq1.true c.write_be.ensures

pub returns-then-width-eq2 : goal.returns-then-width-eq2
returns-then-width-eq2 c = put_by_width _ _ _ _ _ _ c.if-width-eq2.true c.write_be-then-width-eq2.ensures

pub returns-then-width-eq4 : goal.returns-then-width-eq4
returns-then-width-eq4 c = put_by_width _ _ _ _ _ _ c.if-width-eq4.true c.write_be-then-width-eq4.ensures

pub returns : goal.returns
returns c = c.write_be-2.ensures
