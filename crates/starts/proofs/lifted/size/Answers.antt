-- `starts::lifted::size` meets its contract: no reception counts as one. Assumes nothing.
use Rattle.std.proofs.Common.{arith, le-ltb, lt-ltb}
use Rattle.starts.specs.Lifted.{size}
use Rattle.starts.proofs.Constants.{small, count-of-one}
use Rattle.starts.proofs.lifted.size.Goals as goal

pub int_to_float-result : goal.int_to_float-result
int_to_float-result c = small _ (omega arith)

pub returns-then-k-gt0 : goal.returns-then-k-gt0
unfolding size
returns-then-k-gt0 c = rw (lt-ltb _ _ c.if-k-gt0.true)

pub returns : goal.returns
unfolding size
returns c = rw (le-ltb _ _ c.if-k-gt0.false, count-of-one)
