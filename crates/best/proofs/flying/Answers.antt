-- `best::flying` meets its contract. Both ends are included, and a not-a-number is at neither side of them. Assumes nothing.
use Rattle.limits.proofs.Constants.{lowest, highest}
use Rattle.best.proofs.flying.Goals as goal

pub returns-then-height : goal.returns-then-height
returns-then-height c = rw (lowest, highest, c.if-height.true)

pub returns-else-height : goal.returns-else-height
returns-else-height c = rw (lowest, highest, c.if-height.false)
