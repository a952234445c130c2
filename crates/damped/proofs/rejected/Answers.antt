-- `damped::rejected` meets its contract. Only lambda changes, and its test picks the verdict. Assumes nothing.
use Rattle.damped.specs.Damped.{rejected}
use Rattle.damped.proofs.Constants.{most-bits, ten-bits}
use Rattle.damped.proofs.rejected.Goals as goal

pub returns-then-state : goal.returns-then-state
unfolding rejected
returns-then-state c = rw (most-bits, ten-bits, c.if-state.true)

pub returns : goal.returns
unfolding rejected
returns c = rw (most-bits, ten-bits, c.if-state.false)
