-- `libm::hypotenuse::medium` meets its contract: the returns are the two cases of the definition, and the words stay up to an infinity's. Assumes
-- nothing.
use Rattle.libm.specs.Hypotenuse.{medium}
use Rattle.libm.proofs.hypotenuse.medium.Goals as goal

pub returns-then-w-b : goal.returns-then-w-b
unfolding medium
returns-then-w-b c = rw (c.if-w-b.true, c.sqrt_near.ensures, c.word-t1.ensures)

pub returns : goal.returns
unfolding medium
returns c = rw (c.if-w-b.false, c.sqrt_near-2.ensures, c.word-y1.ensures, c.word-t1-2.ensures)
