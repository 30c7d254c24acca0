-- `header::PduHeader::data_end` meets its contract: P, less a checksum.
use Rattle.header.proofs.Verifying.{end_from}
use Rattle.header.proofs.PduHeader.data_end.Goals as goal

pub overflow_sub-result : goal.overflow_sub-result
overflow_sub-result c = (end_from _ _ _ c.bit.ensures.0 c.pdu_len.ensures.0).0

pub returns : goal.returns
returns c = (end_from _ _ _ c.bit.ensures.0 c.pdu_len.ensures.0).1
