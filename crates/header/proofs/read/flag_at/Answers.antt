-- `header::read::flag_at` meets its contract: a mask of one bit is the remainder by 2.
use mathlib.Core.Path.{ap, ◌∙◌}
use Prim.Native.Nat.{ℕ, ◌/◌, ◌^◌}
use lib.Bits.{and_mask}
use lib.Dec.{eqb}
use Rattle.header.specs.Reading.{is_set}
use Rattle.header.proofs.read.flag_at.Goals as goal

pub returns : goal.returns
unfolding is_set
returns g c = c.from_bit.ensures ∙ ap (λ (n : ℕ). g.F.Flag.flag_if (eqb n 1)) (and_mask (c.args.byte / 2 ^ c.args.k) 1)
