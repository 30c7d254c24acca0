-- `nakstream::offer` is safe: a call takes bytes of what is left of the fragment.
use Rattle.nakstream.proofs.Taken.{stays_inside}
use Rattle.nakstream.proofs.offer.Goals as goal

pub slice_bounds-rest-count : goal.slice_bounds-rest-count
slice_bounds-rest-count c = stays_inside c.receive-got.result _ _ c.loop-rest.rest.now c.receive-got.ensures

pub slice_bounds-rest-start : goal.slice_bounds-rest-start
slice_bounds-rest-start c = stays_inside c.receive-got.result _ _ c.loop-rest.rest.now c.receive-got.ensures
