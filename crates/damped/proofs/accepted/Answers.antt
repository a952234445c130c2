-- `damped::accepted` meets its contract. The fields are the definition's, and `small` picks the verdict. Assumes nothing.
use Rattle.damped.specs.Damped.{accepted}
use Rattle.damped.proofs.Constants.{least-bits, ten-bits}
use Rattle.damped.proofs.accepted.Goals as goal

pub returns-then-small : goal.returns-then-small
unfolding accepted
returns-then-small c = rw (c.max.ensures, least-bits, ten-bits, ← c.small.ensures, c.if-small.true)

pub returns : goal.returns
unfolding accepted
returns c = rw (c.max.ensures, least-bits, ten-bits, ← c.small.ensures, c.if-small.false)
