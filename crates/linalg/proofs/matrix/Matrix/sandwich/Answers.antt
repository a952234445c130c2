-- `linalg::matrix::Matrix::sandwich` meets its contract: a size up to 32 has room (`room`), and the rest is what the kernel
-- ensures. Assumes nothing.
use native.Mathlib.Omega.{arith}
use Rattle.dense.proofs.Places.{room}
use Rattle.linalg.proofs.matrix.Matrix.sandwich.Goals as goal

pub sandwich-requires : goal.sandwich-requires
sandwich-requires c = omega (arith, room c.args.n c.requires)
