-- `starts::lifted::lifted` meets its contract: the place is `to_ecef`'s, and its time `timed`'s. Assumes nothing.
use Rattle.starts.specs.Lifted.{lifted}
use Rattle.starts.proofs.lifted.lifted.Goals as goal

pub returns : goal.returns
unfolding lifted
returns c = rw (← c.to_ecef-x.ensures, ← c.timed.ensures)
