-- Reading a NAK, in the order of document 01's sentence.
use Rattle.fields.specs.Staged.{Staged, accept, ◌>>=◌, ◌>>◌, test}
use Rattle.header.specs.Header.{data_end}
use Rattle.header.specs.Directive.{data_short, reading_directive}
use Rattle.nak.specs.declared.Nak.{Nak}
use Rattle.nak.specs.Nak.{nak_code, area_start, nak_in}

-- through '8', as every directive PDU; then 'E below h + 1 + F (6, needs that)'
unfoldable pub reading_nak : Staged Nak
reading_nak = do
  d ← reading_directive nak_code
  test (data_short (data_end d.header) (area_start d.header))
  accept (nak_in d.header d.content)
