-- `starts::first` meets its contract: the flag decides, as in the definition. Assumes nothing.
use Rattle.starts.specs.Held.{push, packed}
use Rattle.starts.proofs.first.Goals as goal

pub returns-then-had : goal.returns-then-had
unfolding packed push
returns-then-had c = rw c.if-had.true c.push.ensures

pub returns : goal.returns
unfolding packed
returns c = rw c.if-had.false
