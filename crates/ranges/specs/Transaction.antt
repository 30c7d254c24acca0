-- A transaction: 'source or sequence number' tell two apart, each by number and not by width.
use Rattle.std.specs.Prelude.{Bool, ◌&&◌, eqb}
use Rattle.fields.specs.Width.{same_value}
use Rattle.header.specs.declared.PduHeader.{PduHeader}

unfoldable pub same_transaction : PduHeader → PduHeader → Bool
same_transaction g h = eqb g.source.0 h.source.0 && same_value g.sequence.0 h.sequence.0
