-- Reading an EOF (document 02, C-01): 'The reading order up to the known-directive check is the NAK's'; 'Refusals on reading, after 8 and the length check: 16 .. 28'.
use Rattle.std.specs.Prelude.{ℕ, ◌+◌, List, [], ◌∷◌}
use Rattle.fields.specs.Answer.{Test}
use Rattle.fields.specs.Staged.{Staged, accept, ◌>>=◌, ◌>>◌, tests}
use Rattle.header.specs.declared.PduHeader.{PduHeader}
use Rattle.header.specs.Header.{header_length, data_end}
use Rattle.header.specs.Directive.{data_short, reading_directive}
use Rattle.header.specs.Condition.{reserved_condition}
use Rattle.eof.specs.declared.Eof.{Eof}
use Rattle.eof.specs.Fault.{not_a_fault}
use Rattle.eof.specs.Eof.{eof_code, least_size, condition_in, after_size, eof_in}

-- of the data c: E below h + 6 + 4 or 8 (6, needs that); 16; 28
unfoldable pub read_tests : PduHeader → List ℕ → List Test
read_tests h c =
    data_short (data_end h) (header_length h + least_size h.file)
    ∷ reserved_condition (condition_in c)
    ∷ not_a_fault (after_size h.file c)
    ∷ []

unfoldable pub reading_eof : Staged Eof
reading_eof = do
  d ← reading_directive eof_code
  tests (read_tests d.header d.content)
  accept (eof_in d.header d.content)
