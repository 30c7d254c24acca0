-- Reading an ACK (document 02, C-01): 'The reading order up to the known-directive check is the NAK's'; 'Refusals on reading, after 8 and the length check: 16 .. 17'.
use Rattle.std.specs.Prelude.{ℕ, ◌+◌, List, ◌∷◌}
use Rattle.fields.specs.Answer.{Test}
use Rattle.fields.specs.Staged.{Staged, accept, ◌>>=◌, ◌>>◌, tests}
use Rattle.header.specs.declared.PduHeader.{PduHeader}
use Rattle.header.specs.Header.{header_length, data_end}
use Rattle.header.specs.Directive.{data_short, reading_directive}
use Rattle.ack.specs.declared.Ack.{Ack}
use Rattle.ack.specs.Ack.{ack_code, ack_size, code_tests, acked_in, condition_in, ack_in}

-- of the data c: E below h + 3 (6, needs that); 16; 17
unfoldable pub read_tests : PduHeader → List ℕ → List Test
read_tests h c = data_short (data_end h) (header_length h + ack_size) ∷ code_tests (condition_in c) (acked_in c)

unfoldable pub reading_ack : Staged Ack
reading_ack = do
  d ← reading_directive ack_code
  tests (read_tests d.header d.content)
  accept (ack_in d.header d.content)
