-- `nak::write::towards_sender` meets its contract: direction, then the file flag.
use mathlib.Core.Path.{ap, ◌∙◌}
use Rattle.header.specs.Header.{with_file_flag}
use Rattle.nak.proofs.write.towards_sender.Goals as goal

pub returns : goal.returns
returns c = c.with_file_flag.ensures ∙ ap (with_file_flag c.args.file) c.with_direction.ensures
