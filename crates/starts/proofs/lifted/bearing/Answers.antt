-- `starts::lifted::bearing` meets its contract: the step and the eight are small enough to be floats exactly (`small`). Assumes nothing.
use Rattle.std.proofs.Common.{arith}
use Rattle.starts.specs.Lifted.{bearing}
use Rattle.starts.proofs.Constants.{small, whole-turn}
use Rattle.starts.proofs.lifted.bearing.Goals as goal

pub int_to_float-result : goal.int_to_float-result
int_to_float-result c = small _ (omega arith)

pub int_to_float-result-2 : goal.int_to_float-result-2
int_to_float-result-2 c = small _ (omega arith)

pub returns : goal.returns
unfolding bearing
returns c = rw whole-turn
