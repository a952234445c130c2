-- `whitening::timing::covariance` meets its contract. The invariant: the matrix keeps its size k, and the rows and columns below a are stored. The
-- measure is what is left of k. Assumes nothing.
use mathlib.Core.Path.{◌≡◌, ap, ap₂}
use native.Mathlib.Numerals.{add-one}
use native.Mathlib.Omega.{arith}
use Rattle.linalg.specs.Held.{matrix}
use Rattle.linalg.specs.declared.matrix.Matrix.{Matrix}
use Rattle.whitening.specs.Covariance.{covariance_to}
use Rattle.whitening.proofs.timing.covariance.Goals as goal

pub loop-a-init : goal.loop-a-init
unfolding covariance_to
loop-a-init c =
    let made = c.zeros-sigma.ensures in
    (omega arith, ap (λ (m : Matrix). m.n) made, ap (λ (m : Matrix). m.«data») made)

pub covariance_row-requires : goal.covariance_row-requires
covariance_row-requires c = record {
  n_bound = (omega arith, omega arith, omega arith);
  by_index = c.requires.by_index;
}

pub loop-a-preserved : goal.loop-a-preserved
unfolding covariance_to
loop-a-preserved c =
    let inv = c.loop-a.invariant in
    (omega arith, inv.1, rw (add-one, ← inv.2, c.covariance_row.ensures))

pub returns : goal.returns
returns c =
    let loop = c.loop-a in
    let all : loop.a ≡ c.args.k = omega arith in
    ap₂ matrix loop.invariant.1 (rw all at loop.invariant.2)
