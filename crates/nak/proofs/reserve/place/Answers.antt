-- `nak::reserve::place` meets its contract: where the requests start and stop.
use Rattle.nak.proofs.Reserving.{place_is}
use Rattle.nak.proofs.reserve.place.Goals as goal

pub returns : goal.returns
returns c = place_is _ _ _ _ c.area_start.ensures.0 c.data_end.ensures
