-- `metadata::Metadata::from_bytes` meets its contract: the refusal of the PDU, or what its data say.
use Rattle.metadata.proofs.Data.{read_metadata}
use Rattle.metadata.proofs.Metadata.from_bytes.Goals as goal

pub slice_bounds-metadata_in-count : goal.slice_bounds-metadata_in-count
slice_bounds-metadata_in-count c =
    (read_metadata _ _ _ c.in_ok-pdu.ensures c.header_len-at.ensures.0).0.before

pub slice_bounds-metadata_in-start : goal.slice_bounds-metadata_in-start
slice_bounds-metadata_in-start c =
    (read_metadata _ _ _ c.in_ok-pdu.ensures c.header_len-at.ensures.0).0.before

pub slice_bounds-metadata_in-end : goal.slice_bounds-metadata_in-end
slice_bounds-metadata_in-end c =
    (read_metadata _ _ _ c.in_ok-pdu.ensures c.header_len-at.ensures.0).0.inside
