-- `whitening::slopes::slope_row` meets its contract. The promises of `site` and `sub`, put together. Assumes nothing.
use Rattle.whitening.proofs.slopes.slope_row.Goals as goal

pub returns : goal.returns
returns c = rw (c.sub-delta.ensures, c.site.ensures, c.requires.1)
