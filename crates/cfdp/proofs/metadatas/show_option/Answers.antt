-- `cfdp::metadatas::show_option` meets its contract: three numbers by `show_few`, two behind them.
use Rattle.cfdp.proofs.MetadataShown.{option_numbers}
use Rattle.cfdp.proofs.metadatas.show_option.Goals as goal

pub returns : goal.returns
returns c = option_numbers _ _ _ _ _ c.show_few.ensures
