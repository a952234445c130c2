-- `whitening::timing::variance` meets its contract. A standard deviation is the root of a sum whose first term is what `at` gives. Assumes nothing.
use native.Mathlib.Omega.{arith}
use Rattle.dense.proofs.Places.{room}
use Rattle.whitening.specs.Covariance.{sigma}
use Rattle.whitening.proofs.timing.variance.Goals as goal

pub at-requires : goal.at-requires
at-requires c = omega (arith, room c.args.n (omega arith))

pub returns : goal.returns
unfolding sigma
returns c = rw c.at.ensures
