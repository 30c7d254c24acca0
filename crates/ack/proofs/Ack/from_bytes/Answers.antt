-- `ack::Ack::from_bytes` meets its contract: the refusal of the PDU, or what its data say.
use Rattle.ack.proofs.Data.{read_ack}
use Rattle.ack.proofs.Ack.from_bytes.Goals as goal

pub slice_bounds-ack_in-count : goal.slice_bounds-ack_in-count
slice_bounds-ack_in-count c =
    (read_ack _ _ _ c.in_ok-pdu.ensures c.header_len-at.ensures.0).0.before

pub slice_bounds-ack_in-start : goal.slice_bounds-ack_in-start
slice_bounds-ack_in-start c =
    (read_ack _ _ _ c.in_ok-pdu.ensures c.header_len-at.ensures.0).0.before

pub slice_bounds-ack_in-end : goal.slice_bounds-ack_in-end
slice_bounds-ack_in-end c =
    (read_ack _ _ _ c.in_ok-pdu.ensures c.header_len-at.ensures.0).0.inside
