-- `cfdp::header_from` meets its contract: each flag is that of its byte, and the widths are joined.
use mathlib.Core.Path.{◌∙◌}
use Rattle.cfdp.specs.Given.{record_from, header_from}
use Rattle.cfdp.proofs.header_from.Goals as goal

pub returns : goal.returns
unfolding record_from header_from
returns c =
    c.from_fields.ensures
    ∙ rw (c.from_bit.ensures, c.from_bit-2.ensures, c.from_bit-3.ensures, c.from_bit-4.ensures, c.from_bit-5.ensures, c.from_bit-6.ensures, c.from_bit-7.ensures, c.new.ensures, c.new-2.ensures, c.new-3.ensures)
