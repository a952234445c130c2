-- `starts::bancroft::row_at` meets its contract: each callee ensures its part. Assumes nothing.
use Rattle.starts.specs.Bancroft.{row_at}
use Rattle.starts.proofs.bancroft.row_at.Goals as goal

pub returns : goal.returns
unfolding row_at
returns c = rw (c.sub-s.ensures, c.site.ensures)
