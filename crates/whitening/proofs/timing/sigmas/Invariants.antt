-- `whitening::timing::sigmas` meets its contract. The invariant: the entries below i are variances. Their roots are the standard deviations
-- (`roots-fill`). The measure is what is left of n. Assumes nothing.
use mathlib.Core.Path.{◌≡◌}
use Prim.Native.Nat.{◌≤◌, ◌-◌}
use lib.ListN.{length}
use Rattle.whitening.specs.Covariance.{sigma}
use Rattle.whitening.proofs.Ranges.{Squared}
use Rattle.whitening.proofs.timing.sigmas.Given as goal

abbrev pub invariant-loop-i : goal.invariant-loop-i
invariant-loop-i l = (l.i ≤ l.n) × (length l.variances ≡ 32) × Squared l.variances (sigma l.clock l.n l.noise) l.i

abbrev pub decreases-loop-i : goal.decreases-loop-i
decreases-loop-i l = l.n - l.i
