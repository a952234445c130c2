-- `wire::writable` meets its contract: the three tests of the definition, whose limits have the bits of the code's (Limits). Assumes nothing.
use borrow.Author.Rules.{rules}
use Rattle.wire.specs.Wire.{writable}
use Rattle.limits.proofs.Constants.{lowest, highest}
use Rattle.wire.proofs.Limits.{quarter-turn, half-turn}
use Rattle.wire.proofs.writable.Goals as goal

pub returns-then-lon : goal.returns-then-lon
unfolding writable
returns-then-lon c = rw (quarter-turn, half-turn, lowest, highest) (search rules)

pub returns-else-lon : goal.returns-else-lon
unfolding writable
returns-else-lon c = rw (quarter-turn, half-turn, lowest, highest) (search rules)
