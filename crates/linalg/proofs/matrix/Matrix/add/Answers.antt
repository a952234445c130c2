-- `linalg::matrix::Matrix::add` meets its contract: a size up to 32 has room (`room`), and the sum is that of the entry which `at` ensures. Assumes
-- nothing.
use native.Mathlib.Omega.{arith}
use Rattle.dense.proofs.Places.{room}
use Rattle.linalg.proofs.matrix.Matrix.add.Goals as goal

pub at-requires : goal.at-requires
at-requires c = omega (arith, room c.args.n c.requires.0)

pub put-requires : goal.put-requires
put-requires c = omega (arith, room c.args.n c.requires.0)

pub returns : goal.returns
returns c = rw (c.put.ensures, c.at.ensures)
