-- `header::PduHeader::header_len` meets its contract: the sum is the definition's.
use mathlib.Core.Path.{refl}
use Rattle.header.specs.Header.{header_length}
use borrow.Author.Rules.{rules}
use Rattle.header.proofs.PduHeader.header_len.Goals as goal

pub returns : goal.returns
unfolding header_length
returns c = (refl, search rules, search rules)
