-- `header::PduHeader::from_fields` meets its contract: the widths differ, or the record is that of the parts.
use Rattle.header.proofs.Judging.{widths_differ_lem, widths_agree}
use Rattle.header.proofs.PduHeader.from_fields.Goals as goal

pub returns-then-source-destination : goal.returns-then-source-destination
returns-then-source-destination c = widths_differ_lem _ _ _ c.if-source-destination.true

pub returns : goal.returns
returns c = widths_agree _ _ _ c.if-source-destination.false
