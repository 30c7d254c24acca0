-- The worked examples, computed.
-- Assumes nothing.
use mathlib.Core.Path.{refl}
use lib.Count.{ones}
use Rattle.fields.specs.Width.{is_width, fits_width}
use Rattle.fields.specs.BigEndian.{be_from, be_value, be_bytes, number_at}
use Rattle.fields.specs.Checksum.{bit_step, bit_steps, byte_step, checksum_from, checksum_of}
use Rattle.header.specs.Header.{header_length, pdu_length, data_end, first_byte, fourth_byte, header_bytes}
use Rattle.header.specs.Judging.{record_tests}
use Rattle.header.specs.Reading.{is_set, header_in, reading_header}
use Rattle.header.specs.Verifying.{pdu_bytes}
use Rattle.header.specs.Code.{is_known}
use Rattle.header.specs.Directive.{content_of, reading_directive}
use Rattle.header.specs.Pdu.{directive_tests, pdu_over, writing_pdu, pdu_memory}
use Rattle.header.specs.Condition.{is_condition}
use Rattle.ack.specs.Ack.{is_acked, subtype_of, direction_for, status_of, code_tests, ack_in}
use Rattle.ack.specs.Reading.{read_tests, reading_ack}
use Rattle.ack.specs.Writing.{ack_data, ack_length, filled, own_tests, writing_ack, ack_memory}
use Rattle.ack.specs.Demands.{WorkedCases}

pub worked_cases : WorkedCases
unfolding ones is_width fits_width be_from be_value be_bytes number_at bit_step bit_steps byte_step checksum_from checksum_of header_length pdu_length data_end first_byte fourth_byte header_bytes record_tests is_set header_in reading_header pdu_bytes is_known content_of reading_directive directive_tests pdu_over writing_pdu pdu_memory is_condition is_acked subtype_of direction_for status_of code_tests ack_in read_tests reading_ack ack_data ack_length filled own_tests writing_ack ack_memory
worked_cases = refl
