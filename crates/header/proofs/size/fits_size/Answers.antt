-- `header::size::fits_size` meets its contract: the width is that of the flag.
use Rattle.header.proofs.Sizes.{fits_is}
use Rattle.header.proofs.size.fits_size.Goals as goal

pub returns : goal.returns
returns c = fits_is _ _ _ _ c.size_width.ensures.0 c.fits.ensures
