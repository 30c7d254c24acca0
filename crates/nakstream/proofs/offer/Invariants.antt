-- `nakstream::offer` ends: what is left of the fragment gets shorter.
use lib.ListN.{length}
use Rattle.nakstream.proofs.offer.Given as goal

abbrev pub decreases-loop-rest : goal.decreases-loop-rest
decreases-loop-rest l = length l.rest
