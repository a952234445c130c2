-- `damped::descent` meets its contract. The Cholesky's verdict picks the definition's case, and `solve` gives the found one's solution. Assumes
-- nothing.
use Rattle.damped.specs.Damped.{descent}
use Rattle.damped.proofs.descent.Goals as goal

pub returns-then-not-cholesky : goal.returns-then-not-cholesky
unfolding descent
returns-then-not-cholesky c = rw (← c.cholesky.ensures, c.if-not-cholesky.true)

pub returns : goal.returns
unfolding descent
returns c = rw (← c.cholesky.ensures, c.if-not-cholesky.false, c.solve.ensures)
