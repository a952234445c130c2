-- `linalg::cholesky::Cholesky::forward_rows` meets its contract: rows and columns up to 32 have room (`few`), and the rest is
-- what the kernel ensures. Assumes nothing.
use native.Mathlib.Omega.{arith}
use Rattle.dense.proofs.Places.{few, room}
use Rattle.linalg.proofs.cholesky.Cholesky.forward_rows.Goals as goal

pub forward_rows-requires : goal.forward_rows-requires
forward_rows-requires c =
    let n = c.args.n in
    let width = c.args.width in
    omega (arith, room n (omega arith), few n width (omega arith) (omega arith))
