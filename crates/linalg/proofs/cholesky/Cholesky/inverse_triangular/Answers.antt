-- `linalg::cholesky::Cholesky::inverse_triangular` meets its contract: a size up to 32 has room (`room`), and the rest is what
-- the kernel ensures. Assumes nothing.
use native.Mathlib.Omega.{arith}
use Rattle.dense.proofs.Places.{room}
use Rattle.linalg.proofs.cholesky.Cholesky.inverse_triangular.Goals as goal

pub inverse_triangular-requires : goal.inverse_triangular-requires
inverse_triangular-requires c = omega (arith, room c.args.n c.requires)
