-- `libm::words::signed` meets its contract: both returns are the two cases of the definition. Assumes nothing.
use Rattle.libm.specs.Words.{signed}
use Rattle.libm.proofs.words.signed.Goals as goal

pub returns-then-negative : goal.returns-then-negative
unfolding signed
returns-then-negative c = rw (← c.negative.ensures, c.if-negative.true)

pub returns : goal.returns
unfolding signed
returns c = rw (← c.negative.ensures, c.if-negative.false)
