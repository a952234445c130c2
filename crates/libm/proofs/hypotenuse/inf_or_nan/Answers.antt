-- `libm::hypotenuse::inf_or_nan` meets its contract: each return is one case of the definition, and 1 / 0 is the infinity (`one-by-nought`). Assumes
-- nothing.
use Rattle.libm.specs.Hypotenuse.{inf_or_nan}
use Rattle.libm.proofs.Infinity.{one-by-nought}
use Rattle.libm.proofs.hypotenuse.inf_or_nan.Goals as goal

pub returns-then-b-infinity : goal.returns-then-b-infinity
unfolding inf_or_nan
returns-then-b-infinity c = rw (← one-by-nought, c.if-b-infinity.true)

pub returns-then-a-infinity : goal.returns-then-a-infinity
unfolding inf_or_nan
returns-then-a-infinity c = rw (← one-by-nought, c.if-b-infinity.false, c.if-a-infinity.true)

pub returns : goal.returns
unfolding inf_or_nan
returns c = rw (← one-by-nought, c.if-b-infinity.false, c.if-a-infinity.false)
