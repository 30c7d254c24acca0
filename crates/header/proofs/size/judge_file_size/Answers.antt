-- `header::size::judge_file_size` meets its contract: whether it fits decides.
use mathlib.Core.Path.{sym, ◌∙◌}
use Rattle.header.proofs.Sizes.{size_too_large_lem, size_goes}
use Rattle.header.proofs.size.judge_file_size.Goals as goal

pub returns-then-not-fits_size : goal.returns-then-not-fits_size
returns-then-not-fits_size c = size_too_large_lem _ _ (sym c.fits_size.ensures ∙ c.if-not-fits_size.true)

pub returns : goal.returns
returns c = size_goes _ _ (sym c.fits_size.ensures ∙ c.if-not-fits_size.false)
