-- `whitening::rows::ranges_of` meets its contract. The invariant: the entries below i are squares of ranges. Their roots are the ranges
-- (`roots-fill`). The measure is what is left of k. Assumes nothing.
use mathlib.Core.Path.{◌≡◌}
use Prim.Native.Nat.{◌≤◌, ◌-◌}
use lib.ListN.{length}
use Rattle.problem.specs.Problem.{range}
use Rattle.whitening.proofs.Ranges.{Squared}
use Rattle.whitening.proofs.rows.ranges_of.Given as goal

abbrev pub invariant-loop-i : goal.invariant-loop-i
invariant-loop-i l = (l.i ≤ l.k) × (length l.squared ≡ 32) × Squared l.squared (range l.sites l.x) l.i

abbrev pub decreases-loop-i : goal.decreases-loop-i
decreases-loop-i l = l.k - l.i
