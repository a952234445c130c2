-- `linalg::matrix::Matrix::set` meets its contract: a size up to 32 has room (`room`), and the rest is what the kernel ensures. Assumes nothing.
use native.Mathlib.Omega.{arith}
use Rattle.dense.proofs.Places.{room}
use Rattle.linalg.proofs.matrix.Matrix.set.Goals as goal

pub put-requires : goal.put-requires
put-requires c = omega (arith, room c.args.n c.requires.0)
