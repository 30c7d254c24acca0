-- The starred cases of document 01, computed; that four refusals as short are heard; and that N is one of the NAKs that can be archived.
-- Assumes nothing.
use Prim.Native.Nat.{ℕ, zero, suc, ◌^◌, ◌<◌}
use mathlib.Core.Path.{◌≡◌, refl}
use mathlib.Core.List.{[], ◌∷◌}
use native.Mathlib.Omega.{arith}
use lib.Count.{ones}
use lib.Dec.{lit<}
use Rattle.fields.specs.Width.{is_width, fits_width}
use Rattle.fields.specs.BigEndian.{be_from, be_value, number_at, be_bytes}
use Rattle.fields.specs.Checksum.{bit_step, bit_steps, byte_step, checksum_from, checksum_of}
use Rattle.fields.specs.Answer.{accepted}
use Rattle.header.specs.declared.PduHeader.{PduHeader}
use Rattle.header.specs.declared.flags.Direction.TheVariants.{TowardsReceiver}
use Rattle.header.specs.declared.flags.LargeFileFlag.TheVariants.{Normal, Large}
use Rattle.header.specs.Header.{header_length, pdu_length, data_end, first_byte, fourth_byte, header_bytes, with_direction, with_file_flag, with_length}
use Rattle.header.specs.Judging.{record_tests}
use Rattle.header.specs.Reading.{is_set, header_in, reading_header}
use Rattle.header.specs.Verifying.{pdu_bytes}
use Rattle.header.specs.Code.{is_known}
use Rattle.header.specs.Directive.{content_of, reading_directive}
use Rattle.header.specs.Pdu.{pdu_over, directive_tests, handed_back, writing_pdu}
use Rattle.header.specs.Size.{fits_size}
use Rattle.nak.specs.Nak.{area_start, nak_in}
use Rattle.nak.specs.Reading.{reading_nak}
use Rattle.nak.specs.Requests.{area_of, pairs_of}
use Rattle.nak.specs.Writing.{numbers_bytes, scope_bytes, nak_data, nak_over, nak_bytes, data_length, filled, scope_fits, own_tests, writing_nak}
use Rattle.nak.specs.Demands.{Lent, StarredCases, FourAreHeard}
use Rattle.nak.specs.Archive.{header_of_n, NIsArchived}

pub starred_cases : StarredCases
unfolding ones is_width be_from be_value number_at bit_step bit_steps byte_step checksum_from checksum_of header_length pdu_length data_end is_set header_in reading_header pdu_bytes is_known content_of reading_directive area_start nak_in reading_nak area_of pairs_of
starred_cases = refl

pub four_are_heard : FourAreHeard
unfolding ones is_width be_from be_value number_at bit_step bit_steps byte_step checksum_from checksum_of header_length pdu_length data_end is_set header_in reading_header pdu_bytes is_known content_of reading_directive area_start nak_in reading_nak
four_are_heard = refl

-- N's header with another direction, file flag and length: the writer fills these in
handed_in : PduHeader
handed_in = with_length 0 (with_file_flag Large (with_direction TowardsReceiver header_of_n))

taken : writing_nak Normal handed_in 0 1000 2 24 ≡ accepted (handed_back header_of_n)
unfolding handed_in writing_nak writing_pdu directive_tests record_tests own_tests scope_fits fits_size fits_width is_width ones filled data_length pdu_length header_length
taken = refl

two_lent : (w a b : ℕ) → a < 256 ^ w → b < 256 ^ w → Lent w (a ∷ b ∷ [])
two_lent w a b p q zero = p
two_lent w a b p q (suc zero) = q
two_lent w a b p q (suc (suc i)) = omega (arith, p)

pub n_is_archived : NIsArchived
unfolding nak_bytes nak_over nak_data scope_bytes numbers_bytes pdu_over header_bytes be_bytes first_byte fourth_byte header_length
n_is_archived =
    record {
      nak =
          record {
            file = Normal;
            header = handed_in;
            start = 0;
            end = 1000;
            numbers = 100 ∷ 200 ∷ [];
            room = 24;
            written = handed_back header_of_n;
            scope = two_lent 8 0 1000 (lit< tt) (lit< tt);
            lent = two_lent 4 100 200 (lit< tt) (lit< tt);
            taken = taken;
          };
      contents = refl;
      bytes = refl;
    }
