-- `whitening::rows::raw_residuals` meets its contract. The invariant: the residuals are filled below i, from the ranges that stand below k
-- (`fill-at`). The measure is what is left of k. Assumes nothing.
use mathlib.Core.Path.{◌≡◌}
use Prim.Native.Nat.{◌≤◌, ◌-◌}
use Rattle.whitening.specs.Whitened.{raw, fill_to}
use Rattle.whitening.proofs.rows.raw_residuals.Given as goal

abbrev pub invariant-loop-i : goal.invariant-loop-i
invariant-loop-i l = (l.i ≤ l.k) × (l.r ≡ fill_to l.initial.r (raw l.sites l.z l.p 0) l.i)

abbrev pub decreases-loop-i : goal.decreases-loop-i
decreases-loop-i l = l.k - l.i
