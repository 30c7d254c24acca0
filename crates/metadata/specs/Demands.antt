-- What is proved of this layer, beside the demand that it meets.
use Rattle.std.specs.Prelude.{ℕ, ◌≤◌, ◌≡◌, List, ◌++◌, map, length, Result, Ok, Err}
use Rattle.fields.specs.declared.refusal.Refusal.{Refusal}
use Rattle.fields.specs.BigEndian.{Bytes}
use Rattle.fields.specs.Answer.{accepted, answer_of}
use Rattle.fields.specs.Staged.{run}
use Rattle.fields.specs.Demand3.{Demand3, CodeDemand3}
use Rattle.header.specs.declared.PduHeader.{PduHeader}
use Rattle.header.specs.declared.pdu.PduWritten.{PduWritten}
use Rattle.header.specs.Pdu.{pdu_over}
use Rattle.tlv.specs.declared.Form.TheVariants.{Tlv}
use Rattle.tlv.specs.Walking.{fields_of}
use Rattle.tlv.specs.Shown.{Walked}
use Rattle.metadata.specs.declared.MetadataParams.{MetadataParams}
use Rattle.metadata.specs.declared.Metadata.{Metadata}
use Rattle.metadata.specs.Metadata.{part_of}
use Rattle.metadata.specs.Reading.{reading_metadata}
use Rattle.metadata.specs.Writing.{metadata_data, writing_metadata, metadata_memory}
use Rattle.metadata.specs.Cases.{cases, gives}

-- a PDU that was read from the bytes s is the one that was written under the header h: field by field, names and options byte for byte
pub record Same (h : PduHeader) (p : MetadataParams) (source destination options : List ℕ) (s : List ℕ) (m : Metadata) : Type 0 where
  pub params : m.params ≡ record { header = h; closure = p.closure; kind = p.kind; size = p.size }
  pub source_is : part_of m.source s ≡ source
  pub destination_is : part_of m.destination s ≡ destination
  pub options_are : part_of m.options s ≡ options

-- what is read from bytes, and that it is so
pub record ReadsAs (h : PduHeader) (p : MetadataParams) (source destination options : List ℕ) (s : List ℕ) : Type 0 where
  pub read : Metadata
  pub reads : run reading_metadata s ≡ accepted read
  pub same : Same h p source destination options s read

-- DEMAND 2: what is written, followed by anything, reads back under the header handed back
abbrev pub WrittenReadsBack : Type 0
WrittenReadsBack =
    (p : MetadataParams) (source destination options : List ℕ) (room : ℕ) (t : List ℕ) (w : PduWritten) → writing_metadata p source destination options room ≡ accepted w
    → ReadsAs w.header p source destination options (pdu_over w.header (metadata_data p source destination options) ++ t)

-- DEMAND 2: so does the buffer that an accepted write left, by the code's own answer
pub record CodeReadsAs (h : PduHeader) (p : MetadataParams) (source destination options : List ℕ) (s : List ℕ) (r : Result Metadata Refusal) : Type 0 where
  pub read : Metadata
  pub answers : r ≡ Ok read
  pub same : Same h p source destination options s read

abbrev pub CodeReadsBack : Type 0
CodeReadsBack =
    (p : MetadataParams) (source destination options s : List ℕ) (w : PduWritten) (r : Result Metadata Refusal) → writing_metadata p source destination options (length s) ≡ accepted w
    → answer_of r ≡ run reading_metadata (metadata_memory p source destination options s)
    → CodeReadsAs w.header p source destination options (metadata_memory p source destination options s) r

-- the options of a PDU that was read, walked from the area's start in enough steps: all of them, then the end for ever; and their bytes, one behind the other, are the area
abbrev pub OptionsAreWalked : Type 0
OptionsAreWalked =
    (s : List ℕ) (m : Metadata) (rounds : ℕ) → Bytes s → run reading_metadata s ≡ accepted m → length (fields_of Tlv (part_of m.options s) 0) ≤ rounds
    → Walked Tlv (part_of m.options s) 0 rounds

-- DEMAND 3: at most four refusals as short
abbrev pub MetadataDemand3 : Type 0
MetadataDemand3 = Demand3 (run reading_metadata) 4

-- and its first three parts, of the code's own answers
abbrev pub MetadataCodeDemand3 : Type 0
MetadataCodeDemand3 = CodeDemand3 (run reading_metadata) answer_of Err

-- the worked examples
abbrev pub WorkedCases : Type 0
WorkedCases = map (λ c. gives c.0) cases ≡ map (λ c. c.1) cases
