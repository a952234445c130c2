-- `linalg::matrix::Matrix::mul_vec` meets its contract: a size up to 32 has room (`room`), and the rest is what the kernel ensures. Assumes nothing.
use native.Mathlib.Omega.{arith}
use Rattle.dense.proofs.Places.{room}
use Rattle.linalg.proofs.matrix.Matrix.mul_vec.Goals as goal

pub mul_vec-requires : goal.mul_vec-requires
mul_vec-requires c = omega (arith, room c.args.n c.requires)
