-- `fields::crc::checksum` meets its contract. The loop's invariant: the register, which is the two bytes, and the bytes that are left give the checksum of the whole.
use mathlib.Core.Path.{refl, sym, ap, ◌∙◌}
use native.Mathlib.Omega.{arith}
use borrow.Author.Rules.{rules}
use Rattle.fields.specs.Checksum.{checksum_of, entry}
use Rattle.fields.proofs.Checksum.{checksum_done}
use Rattle.fields.proofs.Table.{entries_at, entries_lt, upper_lt, table_turn}
use Rattle.fields.proofs.crc.checksum.Goals as goal

pub loop-byte-init : goal.loop-byte-init
unfolding checksum_of
loop-byte-init c = (search rules, search rules, refl)

pub loop-byte-preserved : goal.loop-byte-preserved
loop-byte-preserved c =
    let l = c.loop-byte in
    let p = c.table-entries.ensures in
    let k = c.index.ensures in (
      upper_lt _ l.lower (entries_lt _ _ p k.1) l.invariant.1,
      omega arith,
      table_turn l.upper l.lower _ l.byte-index _ l.invariant.1 (search rules) (entries_at _ _ p k.1 ∙ ap entry k.0) ∙ l.invariant.2,
    )

pub returns : goal.returns
returns c = sym (checksum_done _ _ _ c.loop-byte-test.false) ∙ c.loop-byte.invariant.2
