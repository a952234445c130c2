-- `rounds::outliers::residuals` meets its contract. After i turns the array holds the first i residuals, each by the range and the standard deviation
-- that stand below n (`fill-at`). Assumes nothing.
use Rattle.std.proofs.Common.{◌≡◌, ◌-◌, ◌≤◌, replicate}
use Rattle.binary64.specs.Steps.{nought}
use Rattle.problem.specs.declared.Altitude.{Altitude}
use Rattle.whitening.specs.Covariance.{sigma}
use Rattle.whitening.specs.Whitened.{range_at, fill_to}
use Rattle.best.specs.Held.{receptions}
use Rattle.rounds.specs.Solve.{normalised}
use Rattle.rounds.proofs.outliers.residuals.Given as goal

abbrev pub invariant-loop-i : goal.invariant-loop-i
invariant-loop-i l = (l.i ≤ l.n)
    × (l.ranges ≡ fill_to (replicate 32 nought) (range_at l.site l.params) l.n)
    × (l.sigmas ≡ fill_to (replicate 32 nought) (sigma l.clock l.n l.noise) l.n)
    × ((altitude : Altitude) → l.out ≡ fill_to (replicate 32 nought) (normalised (receptions l.site l.z l.noise l.clock l.n altitude) l.params) l.i)

abbrev pub decreases-loop-i : goal.decreases-loop-i
decreases-loop-i l = l.n - l.i
