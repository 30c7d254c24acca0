-- `header::write::judge_room` meets its contract: the room decides.
use Rattle.header.proofs.Writing.{no_room_lem, has_room}
use Rattle.header.proofs.write.judge_room.Goals as goal

pub returns-then-found-expected : goal.returns-then-found-expected
returns-then-found-expected c = no_room_lem _ _ c.if-found-expected.true

pub returns : goal.returns
returns c = has_room _ _ c.if-found-expected.false
