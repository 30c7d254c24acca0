-- The small areas, computed.
-- Assumes nothing.
use mathlib.Core.Path.{refl}
use Rattle.fields.specs.BigEndian.{be_from, be_value, number_at}
use Rattle.tlv.specs.Reading.{tag_at, length_at, is_whole, value_of}
use Rattle.tlv.specs.Walking.{fields_from, fields_of, last_stop, reach, first_cut}
use Rattle.tlv.specs.Cases.{Cases}

pub small_areas : Cases
unfolding first_cut reach last_stop fields_of fields_from value_of is_whole tag_at length_at number_at be_value be_from
small_areas = refl
