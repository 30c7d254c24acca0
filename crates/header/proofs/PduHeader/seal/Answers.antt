-- `header::PduHeader::seal` meets its contract: the checksum goes where the data ends.
use Rattle.header.proofs.Pdus.{sealed_is}
use Rattle.header.proofs.PduHeader.seal.Goals as goal

pub returns : goal.returns
returns c = sealed_is _ _ _ _ c.data_end.ensures c.add_pdu_crc.ensures
