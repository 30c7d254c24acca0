-- The worked examples, computed.
-- Assumes nothing.
use mathlib.Core.Path.{refl}
use lib.Count.{ones}
use Rattle.fields.specs.Width.{is_width, fits_width}
use Rattle.fields.specs.BigEndian.{be_from, be_value, be_bytes, number_at}
use Rattle.fields.specs.Checksum.{bit_step, bit_steps, byte_step, checksum_from, checksum_of}
use Rattle.header.specs.Header.{header_length, pdu_length, data_end, first_byte, fourth_byte, header_bytes}
use Rattle.header.specs.Reading.{is_set, header_in, reading_header}
use Rattle.header.specs.Verifying.{pdu_bytes}
use Rattle.header.specs.Code.{is_known}
use Rattle.header.specs.Directive.{content_of, reading_directive}
use Rattle.header.specs.Pdu.{directive_tests, pdu_over, writing_pdu, pdu_memory}
use Rattle.header.specs.Condition.{is_condition}
use Rattle.header.specs.Size.{fits_size}
use Rattle.header.specs.Judging.{record_tests, entity_tests}
use Rattle.tlv.specs.Form.{head_of, field_bytes}
use Rattle.tlv.specs.Reading.{tag_at, length_at, is_whole, field_in, only_field}
use Rattle.eof.specs.Fault.{field_width, fault_of}
use Rattle.eof.specs.Eof.{eof_in}
use Rattle.eof.specs.Reading.{read_tests, reading_eof}
use Rattle.eof.specs.Writing.{eof_data, eof_size, eof_length, filled, own_tests, writing_eof, eof_memory}
use Rattle.eof.specs.Demands.{WorkedCases}

pub worked_cases : WorkedCases
unfolding ones is_width fits_width be_from be_value be_bytes number_at bit_step bit_steps byte_step checksum_from checksum_of header_length pdu_length data_end first_byte fourth_byte header_bytes record_tests is_set header_in reading_header pdu_bytes is_known content_of reading_directive directive_tests pdu_over writing_pdu pdu_memory is_condition fits_size entity_tests head_of field_bytes tag_at length_at is_whole field_in only_field field_width fault_of eof_in read_tests reading_eof eof_data eof_size eof_length filled own_tests writing_eof eof_memory
worked_cases = refl
