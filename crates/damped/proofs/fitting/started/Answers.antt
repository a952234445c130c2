-- `damped::fitting::started` meets its contract. `LM_LAMBDA` has the bits of the definition's (`lambda-bits`). Assumes nothing.
use Rattle.damped.proofs.Constants.{lambda-bits}
use Rattle.damped.proofs.fitting.started.Goals as goal

pub returns : goal.returns
returns c = rw lambda-bits
