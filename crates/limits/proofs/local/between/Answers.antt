-- `limits::local::between` meets its contract: three turns of `plus_row`, the first from 0. Assumes nothing.
use Rattle.limits.specs.Local.{between}
use Rattle.limits.proofs.local.between.Goals as goal

pub returns : goal.returns
unfolding between
returns c = rw (c.plus_row.ensures, c.plus_row-second.ensures, c.plus_row-first.ensures)
