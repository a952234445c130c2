-- `libm::atan::quarter` meets its contract: each return is one case of the definition. Assumes nothing.
use Rattle.libm.specs.Atan.{quarter}
use Rattle.libm.proofs.atan.quarter.Goals as goal

pub returns-then-negative : goal.returns-then-negative
unfolding quarter
returns-then-negative c = rw (← c.negative.ensures, c.if-negative.true)

pub returns : goal.returns
unfolding quarter
returns c = rw (← c.negative.ensures, c.if-negative.false)
