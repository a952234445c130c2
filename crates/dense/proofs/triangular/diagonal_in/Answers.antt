-- `dense::triangular::diagonal_in` meets its contract. It is what `diagonal` ensures of what `lower_inverse` ensures. Assumes
-- nothing.
use Rattle.dense.proofs.triangular.diagonal_in.Goals as goal

pub returns : goal.returns
returns c = rw (c.diagonal.ensures, c.lower_inverse.ensures)
