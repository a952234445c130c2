-- `linalg::matrix::Matrix::get` meets its contract: a size up to 32 has room (`room`), and the rest is what the kernel ensures. Assumes nothing.
use native.Mathlib.Omega.{arith}
use Rattle.dense.proofs.Places.{room}
use Rattle.linalg.proofs.matrix.Matrix.get.Goals as goal

pub at-requires : goal.at-requires
at-requires c = omega (arith, room c.args.n c.requires.0)
