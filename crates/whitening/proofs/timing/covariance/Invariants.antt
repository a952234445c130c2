-- `whitening::timing::covariance` meets its contract. The invariant: the matrix keeps its size k, and the rows and columns below a are stored. The
-- measure is what is left of k. Assumes nothing.
use mathlib.Core.Path.{◌≡◌}
use Prim.Native.Nat.{◌≤◌, ◌-◌}
use Rattle.linalg.specs.Methods.{zeros}
use Rattle.whitening.specs.Covariance.{covariance_to}
use Rattle.whitening.proofs.timing.covariance.Given as goal

abbrev pub invariant-loop-a : goal.invariant-loop-a
invariant-loop-a l =
    (l.a ≤ l.k) × (l.sigma.n ≡ l.k) × (l.sigma.«data» ≡ covariance_to l.clock l.n l.noise l.index l.k zeros l.a)

abbrev pub decreases-loop-a : goal.decreases-loop-a
decreases-loop-a l = l.k - l.a
