-- `best::rival` meets its contract. A costlier fit is none, and of the others the distance decides. Assumes nothing.
use Rattle.best.proofs.Constants.{nine}
use Rattle.best.proofs.rival.Goals as goal

pub returns-then-not-other-best : goal.returns-then-not-other-best
returns-then-not-other-best c = rw (nine, c.distance.ensures, c.if-not-other-best.true)

pub returns-else-not-other-best : goal.returns-else-not-other-best
returns-else-not-other-best c = rw (nine, c.if-not-other-best.false)
