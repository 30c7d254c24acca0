-- `header::size::write_size` meets its contract: the width is that of the flag.
use mathlib.Core.Path.{refl}
use Rattle.header.specs.declared.flags.LargeFileFlag.TheVariants.{Normal, Large}
use Rattle.header.proofs.Sizes.{put_is}
use Rattle.header.proofs.size.write_size.Goals as goal

pub returns-in-Normal : goal.returns-in-Normal
returns-in-Normal c = put_is _ Normal _ _ _ 4 _ c.in-Normal.is refl c.write_be.ensures

pub returns-in-Large : goal.returns-in-Large
returns-in-Large c = put_is _ Large _ _ _ 8 _ c.in-Large.is refl c.write_be-in-Large.ensures
