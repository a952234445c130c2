-- `starts::lifted::centroid` meets its contract: the invariant: the sum is that of the first i sites, each times w. Assumes nothing.
use Rattle.std.proofs.Common.{◌≡◌, ◌-◌, ◌≤◌}
use Rattle.starts.specs.Lifted.{centroid_to}
use Rattle.starts.proofs.lifted.centroid.Given as goal

abbrev pub invariant-loop-i : goal.invariant-loop-i
invariant-loop-i l = (l.i ≤ l.k) × (l.sum ≡ centroid_to l.sites l.w l.i)

abbrev pub decreases-loop-i : goal.decreases-loop-i
decreases-loop-i l = l.k - l.i
