-- `whitening::timing::covariance_row` meets its contract. The invariant: the places of a and each b' from a to below b hold their values. The measure
-- is what is left of k. Assumes nothing.
use mathlib.Core.Path.{◌≡◌}
use Prim.Native.Nat.{◌≤◌, ◌-◌}
use Rattle.whitening.specs.Covariance.{covariance_row_to}
use Rattle.whitening.proofs.timing.covariance_row.Given as goal

abbrev pub invariant-loop-b : goal.invariant-loop-b
invariant-loop-b l = (l.a ≤ l.b) × (l.b ≤ l.k) × (l.sigma ≡ covariance_row_to l.clock l.n l.noise l.index l.k l.a l.initial.sigma (l.b - l.a))

abbrev pub decreases-loop-b : goal.decreases-loop-b
decreases-loop-b l = l.k - l.b
