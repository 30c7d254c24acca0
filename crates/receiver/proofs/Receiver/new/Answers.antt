-- `receiver::Receiver::new` meets its contract: the repeated zero array is the fresh window.
use mathlib.Core.Path.{refl}
use Rattle.receiver.specs.Receiving.{fresh}
use Rattle.receiver.proofs.Receiver.new.Goals as goal

pub returns : goal.returns
unfolding fresh
returns c = refl
