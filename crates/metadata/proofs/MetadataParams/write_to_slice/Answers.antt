-- `metadata::MetadataParams::write_to_slice` meets its contract: a refusal that changes nothing, or header, data and checksum.
use mathlib.Core.Path.{◌∙◌}
use Rattle.fields.proofs.Handed.{handed_on}
use Rattle.header.proofs.Pdus.{write_refused, begun_passed, data_goes, write_done}
use Rattle.metadata.specs.Writing.{metadata_data, filled, own_tests, writing_metadata, metadata_memory}
use Rattle.metadata.proofs.Data.{length_is}
use Rattle.metadata.proofs.MetadataParams.write_to_slice.Goals as goal

pub put_data-requires : goal.put_data-requires
put_data-requires c =
    let a = c.args in (
      data_goes _ _ c.with_direction-header.ensures (own_tests a.self a.source.now a.destination.now a.options.now) _ _
          c.data_length-own.ensures _ c.with_data-header.ensures _ _ _ c.in_ok-length.ensures.answered
          c.begin_write.ensures.stored (metadata_data a.self a.source.now a.destination.now a.options.now)
          (length_is a.self a.source.now a.destination.now a.options.now) _ c.header_len.ensures.0,
      begun_passed _ _ c.with_direction-header.ensures (own_tests a.self a.source.now a.destination.now a.options.now) _ _
          c.data_length-own.ensures _ c.with_data-header.ensures _ _ c.in_ok-length.ensures.answered,
    )

pub returns-in_err-length : goal.returns-in_err-length
unfolding writing_metadata metadata_memory filled
returns-in_err-length c =
    let a = c.args in
    let both = write_refused _ _ c.with_direction-header.ensures (own_tests a.self a.source.now a.destination.now a.options.now) _ _
    c.data_length-own.ensures _ c.with_data-header.ensures _ (metadata_data a.self a.source.now a.destination.now a.options.now) _ _
    c.in_err-length.ensures.answered c.begin_write.ensures.stored in
    record { answered = handed_on _ _ c.from_residual.ensures.1 ∙ both.0; stored = both.1 }

pub returns : goal.returns
unfolding writing_metadata metadata_memory filled
returns c =
    let a = c.args in
    let both = write_done _ _ c.with_direction-header.ensures (own_tests a.self a.source.now a.destination.now a.options.now) _ _
    c.data_length-own.ensures _ c.with_data-header.ensures _ _ _ c.in_ok-length.ensures.answered
    c.begin_write.ensures.stored (metadata_data a.self a.source.now a.destination.now a.options.now)
    (length_is a.self a.source.now a.destination.now a.options.now) _ c.header_len.ensures.0 _ _ c.put_data.ensures
    c.seal.ensures in
    record { answered = both.0; stored = both.1 }
