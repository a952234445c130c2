-- `linalg::cholesky::Cholesky::backward` meets its contract: a size up to 32 has room (`room`), and the rest is what the kernel ensures. Assumes
-- nothing.
use native.Mathlib.Omega.{arith}
use Rattle.dense.proofs.Places.{room}
use Rattle.linalg.proofs.cholesky.Cholesky.backward.Goals as goal

pub backward-requires : goal.backward-requires
backward-requires c = omega (arith, room c.args.n c.requires)
