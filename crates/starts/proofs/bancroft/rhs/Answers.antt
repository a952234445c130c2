-- `starts::bancroft::rhs` meets its contract: the flag decides, as in the definition. Assumes nothing.
use Rattle.starts.proofs.bancroft.rhs.Goals as goal

pub returns-then-alpha : goal.returns-then-alpha
returns-then-alpha c = rw (c.if-alpha.true, ← c.lorentz.ensures)

pub returns : goal.returns
returns c = rw c.if-alpha.false
