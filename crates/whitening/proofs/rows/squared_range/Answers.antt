-- `whitening::rows::squared_range` meets its contract. The promises of `site`, `sub` and `dot`, put together: a range is the root of what `dot`
-- gives. Assumes nothing.
use Rattle.whitening.proofs.rows.squared_range.Goals as goal

pub returns : goal.returns
returns c = rw (c.dot.ensures, c.sub-delta.ensures, c.site.ensures)
