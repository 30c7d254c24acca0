-- `header::PduHeader::pdu_len` meets its contract: the header and the data field.
use mathlib.Core.Path.{ap}
use Prim.Native.Nat.{ℕ, ◌+◌}
use Rattle.header.specs.Header.{header_length, pdu_length}
use borrow.Author.Rules.{rules}
use Rattle.header.proofs.PduHeader.pdu_len.Goals as goal

pub overflow_add-result : goal.overflow_add-result
unfolding header_length
overflow_add-result c = search rules

pub returns : goal.returns
unfolding pdu_length
returns c = (ap (λ (n : ℕ). n + c.args.self.length) c.header_len.ensures.0, search rules)
