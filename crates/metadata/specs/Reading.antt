-- Reading a Metadata PDU (document 02, C-11): 'Refusals on reading, after 8 and 6 for the part through the file size: 30 checksum type that the Rust's list lacks; 25 name or option runs past E, with the offset of its first byte'.
use Rattle.std.specs.Prelude.{ℕ, ◌+◌, true, false, not, List, [], ◌∷◌, ◌++◌, Result, Ok, Err}
use Rattle.fields.specs.Answer.{Test, when}
use Rattle.fields.specs.Staged.{Staged, accept, ◌>>=◌, ◌>>◌, tests}
use Rattle.header.specs.declared.PduHeader.{PduHeader}
use Rattle.header.specs.Header.{header_length, data_end}
use Rattle.header.specs.Directive.{data_short, reading_directive}
use Rattle.tlv.specs.declared.Form.TheVariants.{Lv, Tlv}
use Rattle.tlv.specs.declared.Cut.{Cut}
use Rattle.tlv.specs.Reading.{stop_at, is_whole}
use Rattle.tlv.specs.Walking.{first_cut}
use Rattle.metadata.specs.declared.Metadata.{Metadata}
use Rattle.metadata.specs.Metadata.{metadata_code, names_at, type_tests, type_in, metadata_in}

-- 25: the name at a place of the data runs past its end, with the offset of its first byte; the data begin at `from`
abbrev pub name_cut : ℕ → List ℕ → ℕ → Test
name_cut from c at = when (not (is_whole Lv c at)) (25 ∷ (from + at) ∷ [])

-- 25: so does an option, if one is cut
abbrev pub option_cut : ℕ → Result (Unit {0}) Cut → Test
option_cut from (Err cut) = when true (25 ∷ (from + cut.at) ∷ [])
option_cut from (Ok none) = when false []

-- source, destination, then options in order
unfoldable pub name_tests : ℕ → List ℕ → ℕ → List Test
name_tests from c at =
    name_cut from c at
    ∷ name_cut from c (stop_at Lv c at)
    ∷ option_cut from (first_cut Tlv c (stop_at Lv c (stop_at Lv c at)))
    ∷ []

-- of the data c: E below h + 2 + 4 or 8 (6, needs that); 30; 25
unfoldable pub read_tests : PduHeader → List ℕ → List Test
read_tests h c =
    (data_short (data_end h) (header_length h + names_at h.file) ∷ [])
    ++ (type_tests (type_in c) ++ name_tests (header_length h) c (names_at h.file))

unfoldable pub reading_metadata : Staged Metadata
reading_metadata = do
  d ← reading_directive metadata_code
  tests (read_tests d.header d.content)
  accept (metadata_in d.header d.content)
