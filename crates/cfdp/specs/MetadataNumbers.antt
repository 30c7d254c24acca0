-- A Metadata PDU as numbers: how it comes out, how one of its options does, and how it goes in.
use Rattle.std.specs.Prelude.{ℕ, Bool, List, [], ◌∷◌, ◌++◌, Option, Some, None, Result, Ok, Err}
use Rattle.header.specs.declared.PduHeader.{PduHeader}
use Rattle.tlv.specs.declared.walk.NextField.{NextField}
use Rattle.tlv.specs.declared.Cut.{Cut}
use Rattle.metadata.specs.declared.Part.{Part}
use Rattle.metadata.specs.declared.MetadataParams.{MetadataParams}
use Rattle.metadata.specs.declared.Metadata.{Metadata}
use Rattle.metadata.specs.Writing.{closure_bit}
use Rattle.cfdp.specs.Shown.{padded, answer_size, header_numbers}

-- where a part starts and stops
abbrev pub part_numbers : Part → List ℕ
part_numbers p = p.start ∷ p.stop ∷ []

-- a PDU that was read: header, closure requested, checksum type, file size, where the names and the options' area lie
abbrev pub metadata_numbers : Metadata → List ℕ
metadata_numbers m =
    header_numbers m.params.header
    ++ (closure_bit m.params.closure ∷ m.params.kind ∷ m.params.size ∷ (part_numbers m.source ++ (part_numbers m.destination ++ part_numbers m.options)))

-- an option: its type, where its value starts and stops, where the next begins; zeros at the end; 25 with its place where it is cut
unfoldable pub option_shown : Result (Option NextField) Cut → List ℕ
option_shown (Ok (Some n)) = padded answer_size (0 ∷ n.field.tag ∷ n.field.start ∷ n.field.stop ∷ n.next.at ∷ [])
option_shown (Ok None) = padded answer_size (0 ∷ [])
option_shown (Err cut) = padded answer_size (25 ∷ cut.at ∷ [])

-- a PDU that is to be written, but for names and options
abbrev pub params_from : PduHeader → Bool → ℕ → ℕ → MetadataParams
params_from h closure kind size = record { header = h; closure = closure; kind = kind; size = size }
