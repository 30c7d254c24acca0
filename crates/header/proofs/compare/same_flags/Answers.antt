-- `header::compare::same_flags` meets its contract: two flags are equal where their bits are.
use Rattle.std.proofs.Common.{rules, ◌≡◌, eqb}
use Rattle.header.specs.Flags.{pdu_type_bit, direction_bit, mode_bit, crc_bit, file_bit, control_bit, metadata_bit}
use Rattle.header.specs.Comparing.{same_flags}
use Rattle.header.proofs.compare.same_flags.Goals as goal

pub returns : goal.returns
unfolding same_flags
returns c =
    let a = c.args.a.now in
    let b = c.args.b.now in
    let kind : c.eq.result ≡ eqb (pdu_type_bit a.kind) (pdu_type_bit b.kind) = search rules in
    let direction : c.eq-2.result ≡ eqb (direction_bit a.direction) (direction_bit b.direction) = search rules in
    let mode : c.eq-3.result ≡ eqb (mode_bit a.mode) (mode_bit b.mode) = search rules in
    let crc : c.eq-4.result ≡ eqb (crc_bit a.crc) (crc_bit b.crc) = search rules in
    let file : c.eq-5.result ≡ eqb (file_bit a.file) (file_bit b.file) = search rules in
    let control : c.eq-6.result ≡ eqb (control_bit a.control) (control_bit b.control) = search rules in
    let metadata : c.eq-7.result ≡ eqb (metadata_bit a.metadata) (metadata_bit b.metadata) = search rules in
    rw (kind, direction, mode, crc, file, control, metadata)
