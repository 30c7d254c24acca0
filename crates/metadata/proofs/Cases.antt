-- The worked examples, computed.
-- Assumes nothing.
use mathlib.Core.Path.{refl}
use lib.Count.{ones}
use Rattle.fields.specs.Width.{is_width, fits_width}
use Rattle.fields.specs.BigEndian.{be_from, be_value, be_bytes, number_at}
use Rattle.fields.specs.Checksum.{bit_step, bit_steps, byte_step, checksum_from, checksum_of}
use Rattle.header.specs.Header.{header_length, pdu_length, data_end, first_byte, fourth_byte, header_bytes}
use Rattle.header.specs.Reading.{is_set, header_in, reading_header}
use Rattle.header.specs.Verifying.{pdu_bytes}
use Rattle.header.specs.Code.{is_known}
use Rattle.header.specs.Directive.{content_of, reading_directive}
use Rattle.header.specs.Pdu.{directive_tests, pdu_over, writing_pdu, pdu_memory}
use Rattle.header.specs.Size.{fits_size}
use Rattle.header.specs.Judging.{record_tests}
use Rattle.tlv.specs.Form.{head_of, field_bytes}
use Rattle.tlv.specs.Reading.{tag_at, length_at, is_whole}
use Rattle.tlv.specs.Walking.{fields_from, fields_of, last_stop, reach, first_cut}
use Rattle.metadata.specs.Metadata.{is_type, names_in, metadata_in}
use Rattle.metadata.specs.Reading.{name_tests, read_tests, reading_metadata}
use Rattle.metadata.specs.Writing.{fixed_data, lent_data, metadata_data, metadata_length, filled, fixed_tests, lent_tests, own_tests, writing_metadata, metadata_memory}
use Rattle.metadata.specs.Demands.{WorkedCases}

pub worked_cases : WorkedCases
unfolding ones is_width fits_width be_from be_value be_bytes number_at bit_step bit_steps byte_step checksum_from checksum_of header_length pdu_length data_end first_byte fourth_byte header_bytes record_tests is_set header_in reading_header pdu_bytes is_known content_of reading_directive directive_tests pdu_over writing_pdu pdu_memory fits_size head_of field_bytes tag_at length_at is_whole fields_from fields_of last_stop reach first_cut is_type names_in metadata_in name_tests read_tests reading_metadata fixed_data lent_data metadata_data metadata_length filled fixed_tests lent_tests own_tests writing_metadata metadata_memory
worked_cases = refl
