-- `header::read::header_in` meets its contract: each part is what the definition says.
use native.Mathlib.Omega.{arith}
use Rattle.header.proofs.Reading.{header_is}
use Rattle.header.proofs.read.header_in.Goals as goal

pub returns : goal.returns
returns c =
    header_is _ c.requires _ _ _ _ _ _ _ _ _ _ _ _ _ _
    c.flag_at.ensures
    c.flag_at-2.ensures
    c.flag_at-3.ensures
    c.flag_at-4.ensures
    c.flag_at-5.ensures
    c.flag_at-6.ensures
    c.flag_at-7.ensures
    c.width_at-entity.ensures.0
    (omega (arith, c.width_at-sequence.ensures.0))
    c.read_be-length.ensures.0
    c.read_be-source_id.ensures.0
    c.read_be-number.ensures.0
    c.read_be-destination_id.ensures.0
    c.new.ensures
