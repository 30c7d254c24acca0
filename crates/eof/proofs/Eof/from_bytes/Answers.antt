-- `eof::Eof::from_bytes` meets its contract: the refusal of the PDU, or what its data say.
use Rattle.eof.proofs.Data.{read_eof}
use Rattle.eof.proofs.Eof.from_bytes.Goals as goal

pub slice_bounds-eof_in-count : goal.slice_bounds-eof_in-count
slice_bounds-eof_in-count c =
    (read_eof _ _ _ c.in_ok-pdu.ensures c.header_len-at.ensures.0).0.before

pub slice_bounds-eof_in-start : goal.slice_bounds-eof_in-start
slice_bounds-eof_in-start c =
    (read_eof _ _ _ c.in_ok-pdu.ensures c.header_len-at.ensures.0).0.before

pub slice_bounds-eof_in-end : goal.slice_bounds-eof_in-end
slice_bounds-eof_in-end c =
    (read_eof _ _ _ c.in_ok-pdu.ensures c.header_len-at.ensures.0).0.inside
