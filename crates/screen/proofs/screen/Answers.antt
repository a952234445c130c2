-- `screen::screen` meets its contract: the rows that the removals take stand for the failing pairs. Assumes nothing.
use Rattle.screen.proofs.screen.Goals as goal

pub returns : goal.returns
returns c = rw c.failing-rows.ensures at c.kept.ensures
