-- `ack::Ack::write_to_slice` meets its contract: a refusal that changes nothing, or header, data and checksum.
use mathlib.Core.Path.{ap, ◌∙◌}
use native.Mathlib.Omega.{arith}
use Rattle.header.specs.Header.{with_direction}
use Rattle.fields.proofs.Handed.{handed_on}
use Rattle.header.proofs.Pdus.{write_refused, begun_passed, data_goes, write_done}
use Rattle.ack.specs.Writing.{ack_data, filled, own_tests, writing_ack, ack_memory}
use Rattle.ack.proofs.Data.{data_size, length_is}
use Rattle.ack.proofs.Ack.write_to_slice.Goals as goal

pub put_data-requires : goal.put_data-requires
put_data-requires c =
    let a = c.args in (
      omega
          (arith, data_goes _ _ (c.with_direction-header.ensures ∙ ap (λ d. with_direction d a.self.header) c.direction_for.ensures) (own_tests a.self) _ _ c.data_length-own.ensures _ c.with_data-header.ensures _ _ _ c.in_ok-length.ensures.answered c.begin_write.ensures.stored (ack_data a.self) (length_is a.self) _ c.header_len.ensures.0, data_size a.self),
      begun_passed _ _ (c.with_direction-header.ensures ∙ ap (λ d. with_direction d a.self.header) c.direction_for.ensures) (own_tests a.self) _ _
          c.data_length-own.ensures _ c.with_data-header.ensures _ _ c.in_ok-length.ensures.answered,
    )

pub returns-in_err-length : goal.returns-in_err-length
unfolding writing_ack ack_memory filled
returns-in_err-length c =
    let a = c.args in
    let both = write_refused _ _ (c.with_direction-header.ensures ∙ ap (λ d. with_direction d a.self.header) c.direction_for.ensures) (own_tests a.self) _ _
    c.data_length-own.ensures _ c.with_data-header.ensures _ (ack_data a.self) _ _
    c.in_err-length.ensures.answered c.begin_write.ensures.stored in
    record { answered = handed_on _ _ c.from_residual.ensures.1 ∙ both.0; stored = both.1 }

pub returns : goal.returns
unfolding writing_ack ack_memory filled
returns c =
    let a = c.args in
    let both = write_done _ _ (c.with_direction-header.ensures ∙ ap (λ d. with_direction d a.self.header) c.direction_for.ensures) (own_tests a.self) _ _
    c.data_length-own.ensures _ c.with_data-header.ensures _ _ _ c.in_ok-length.ensures.answered
    c.begin_write.ensures.stored (ack_data a.self) (length_is a.self) _ c.header_len.ensures.0 _ _ c.put_data.ensures c.seal.ensures in
    record { answered = both.0; stored = both.1 }
