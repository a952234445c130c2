-- `libm::atan::signs` meets its contract: each return is one case of the definition. Assumes nothing.
use Rattle.libm.specs.Atan.{signs}
use Rattle.libm.proofs.atan.signs.Goals as goal

pub returns-then-negative-2 : goal.returns-then-negative-2
unfolding signs
returns-then-negative-2 c = rw (← c.negative.ensures, c.if-negative.true, ← c.negative-then-negative.ensures, c.if-negative-2.true)

pub returns-then-negative : goal.returns-then-negative
unfolding signs
returns-then-negative c = rw (← c.negative.ensures, c.if-negative.true, ← c.negative-then-negative.ensures, c.if-negative-2.false)

pub returns-then-negative-3 : goal.returns-then-negative-3
unfolding signs
returns-then-negative-3 c = rw (← c.negative.ensures, c.if-negative.false, ← c.negative-2.ensures, c.if-negative-3.true)

pub returns : goal.returns
unfolding signs
returns c = rw (← c.negative.ensures, c.if-negative.false, ← c.negative-2.ensures, c.if-negative-3.false)
