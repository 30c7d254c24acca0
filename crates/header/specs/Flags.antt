-- The one-bit flags of section 5.1, table 5-1: the bit of each, and the flag of a bit that is set or not, with the laws of the two.
use Rattle.std.specs.Prelude.{ℕ, ◌<◌, ◌≡◌, Bool, true, false, eqb}
use Rattle.std.proofs.Common.{rules}
use Rattle.header.specs.declared.flags.PduType.{PduType}
use Rattle.header.specs.declared.flags.PduType.TheVariants.{FileDirective, FileData}
use Rattle.header.specs.declared.flags.Direction.{Direction}
use Rattle.header.specs.declared.flags.Direction.TheVariants.{TowardsReceiver, TowardsSender}
use Rattle.header.specs.declared.flags.TransmissionMode.{TransmissionMode}
use Rattle.header.specs.declared.flags.TransmissionMode.TheVariants.{Acknowledged, Unacknowledged}
use Rattle.header.specs.declared.flags.CrcFlag.{CrcFlag}
use Rattle.header.specs.declared.flags.CrcFlag.TheVariants.{NoCrc, WithCrc}
use Rattle.header.specs.declared.flags.LargeFileFlag.{LargeFileFlag}
use Rattle.header.specs.declared.flags.LargeFileFlag.TheVariants.{Normal, Large}
use Rattle.header.specs.declared.flags.SegmentationControl.{SegmentationControl}
use Rattle.header.specs.declared.flags.SegmentationControl.TheVariants.{NoRecordBoundaryPreservation, WithRecordBoundaryPreservation}
use Rattle.header.specs.declared.flags.SegmentMetadataFlag.{SegmentMetadataFlag}
use Rattle.header.specs.declared.flags.SegmentMetadataFlag.TheVariants.{NotPresent, Present}

-- a flag's bit is 0 or 1, and the flag comes back from it
pub record FlagLaws {F : Type 0} (bit : F → ℕ) (flag_if : Bool → F) : Type 0 where
  pub small : (f : F) → bit f < 2
  pub back : (f : F) → flag_if (eqb (bit f) 1) ≡ f

abbrev pub pdu_type_bit : PduType → ℕ
pdu_type_bit FileDirective = 0
pdu_type_bit FileData = 1

abbrev pub pdu_type_if : Bool → PduType
pdu_type_if false = FileDirective
pdu_type_if true = FileData

pub pdu_type_laws : FlagLaws pdu_type_bit pdu_type_if
pdu_type_laws = search rules

abbrev pub direction_bit : Direction → ℕ
direction_bit TowardsReceiver = 0
direction_bit TowardsSender = 1

abbrev pub direction_if : Bool → Direction
direction_if false = TowardsReceiver
direction_if true = TowardsSender

pub direction_laws : FlagLaws direction_bit direction_if
direction_laws = search rules

abbrev pub mode_bit : TransmissionMode → ℕ
mode_bit Acknowledged = 0
mode_bit Unacknowledged = 1

abbrev pub mode_if : Bool → TransmissionMode
mode_if false = Acknowledged
mode_if true = Unacknowledged

pub mode_laws : FlagLaws mode_bit mode_if
mode_laws = search rules

abbrev pub crc_bit : CrcFlag → ℕ
crc_bit NoCrc = 0
crc_bit WithCrc = 1

abbrev pub crc_if : Bool → CrcFlag
crc_if false = NoCrc
crc_if true = WithCrc

pub crc_laws : FlagLaws crc_bit crc_if
crc_laws = search rules

abbrev pub file_bit : LargeFileFlag → ℕ
file_bit Normal = 0
file_bit Large = 1

abbrev pub file_if : Bool → LargeFileFlag
file_if false = Normal
file_if true = Large

pub file_laws : FlagLaws file_bit file_if
file_laws = search rules

abbrev pub control_bit : SegmentationControl → ℕ
control_bit NoRecordBoundaryPreservation = 0
control_bit WithRecordBoundaryPreservation = 1

abbrev pub control_if : Bool → SegmentationControl
control_if false = NoRecordBoundaryPreservation
control_if true = WithRecordBoundaryPreservation

pub control_laws : FlagLaws control_bit control_if
control_laws = search rules

abbrev pub metadata_bit : SegmentMetadataFlag → ℕ
metadata_bit NotPresent = 0
metadata_bit Present = 1

abbrev pub metadata_if : Bool → SegmentMetadataFlag
metadata_if false = NotPresent
metadata_if true = Present

pub metadata_laws : FlagLaws metadata_bit metadata_if
metadata_laws = search rules
