-- `whitening::timing::whitener` meets its contract: the promises of `covariance` and `cholesky`, put together. The matrix has the size k (`sized`).
-- Assumes nothing.
use mathlib.Core.Path.{ap, ◌∙◌}
use native.Mathlib.Omega.{arith}
use Rattle.linalg.specs.declared.matrix.Matrix.{Matrix}
use Rattle.whitening.specs.Covariance.{whitener}
use Rattle.whitening.proofs.timing.whitener.Goals as goal

pub covariance-sigma-requires : goal.covariance-sigma-requires
covariance-sigma-requires c = record {
  n_bound = c.requires.n_bound;
  by_index = c.requires.by_index;
}

pub cholesky-requires : goal.cholesky-requires
cholesky-requires c = omega (arith, ap (λ (m : Matrix). m.n) c.covariance-sigma.ensures)

pub returns : goal.returns
unfolding whitener
returns c = c.cholesky.ensures ∙ rw c.covariance-sigma.ensures
