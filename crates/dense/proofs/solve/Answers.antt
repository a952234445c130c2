-- `dense::solve` meets its contract. It is what `backward` ensures of what `forward` ensures. Assumes nothing.
use Rattle.dense.proofs.solve.Goals as goal

pub returns : goal.returns
returns c = rw (c.backward.ensures, c.forward.ensures)
