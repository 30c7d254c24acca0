-- Comparing two headers: all fields, identifiers and sequence numbers by number and not by width.
use Rattle.std.specs.Prelude.{ℕ, Bool, ◌&&◌, eqb}
use Rattle.std.specs.Cmp.{IsEquivalence, nat_eq_equiv, on_equiv, and_equiv}
use Rattle.std.specs.Ordering.{on}
use Rattle.fields.specs.Width.{same_value}
use Rattle.header.specs.declared.PduHeader.{PduHeader}
use Rattle.header.specs.Flags.{pdu_type_bit, direction_bit, mode_bit, crc_bit, file_bit, control_bit, metadata_bit}

unfoldable pub same_flags : PduHeader → PduHeader → Bool
same_flags a b =
    eqb (pdu_type_bit a.kind) (pdu_type_bit b.kind)
    && eqb (direction_bit a.direction) (direction_bit b.direction)
    && eqb (mode_bit a.mode) (mode_bit b.mode)
    && eqb (crc_bit a.crc) (crc_bit b.crc)
    && eqb (file_bit a.file) (file_bit b.file)
    && eqb (control_bit a.control) (control_bit b.control)
    && eqb (metadata_bit a.metadata) (metadata_bit b.metadata)

unfoldable pub same_header : PduHeader → PduHeader → Bool
same_header a b =
    same_flags a b
    && eqb a.length b.length
    && eqb a.source.0 b.source.0
    && same_value a.sequence.0 b.sequence.0
    && eqb a.destination.0 b.destination.0

-- and that is an equivalence, as the law of `==` asks
by : (f : PduHeader → ℕ) → IsEquivalence (on f eqb)
by f = on_equiv f nat_eq_equiv

same_flags_equiv : IsEquivalence same_flags
unfolding same_flags
same_flags_equiv =
    and_equiv (and_equiv (and_equiv (and_equiv (and_equiv (and_equiv
    (by (λ h. pdu_type_bit h.kind))
    (by (λ h. direction_bit h.direction)))
    (by (λ h. mode_bit h.mode)))
    (by (λ h. crc_bit h.crc)))
    (by (λ h. file_bit h.file)))
    (by (λ h. control_bit h.control)))
    (by (λ h. metadata_bit h.metadata))

pub same_header_equiv : IsEquivalence same_header
unfolding same_header
same_header_equiv =
    and_equiv (and_equiv (and_equiv (and_equiv
    same_flags_equiv
    (by (λ h. h.length)))
    (by (λ h. h.source.0)))
    (by (λ h. h.sequence.0.value)))
    (by (λ h. h.destination.0))
