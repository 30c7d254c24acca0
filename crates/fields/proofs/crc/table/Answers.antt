-- `fields::crc::table` meets its contract: antt computes the 256 entries by their rule, and finds those of the source.
use mathlib.Core.Path.{refl}
use Rattle.fields.specs.Checksum.{bit_step, bit_steps, entry, entries}
use Rattle.fields.proofs.crc.table.Goals as goal

pub returns : goal.returns
unfolding entries entry bit_steps bit_step
returns c = refl
