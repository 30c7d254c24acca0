-- `metadata::write::put_data` meets its contract: what goes in as numbers, and behind it what is lent.
use Rattle.metadata.proofs.Data.{fixed_room, fixed_passed}
use Rattle.metadata.proofs.write.put_data.Goals as goal

pub put_fixed-requires : goal.put_fixed-requires
put_fixed-requires c =
    let a = c.args in
    let pre = c.requires in (
      fixed_room a.params a.lent.source.now a.lent.destination.now a.lent.options.now a.buf.now a.at _ pre.0
          c.size_width.ensures.0,
      fixed_passed a.params a.lent.source.now a.lent.destination.now a.lent.options.now pre.1,
    )
