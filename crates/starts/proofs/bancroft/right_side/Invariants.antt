-- `starts::bancroft::right_side` meets its contract: the invariant: the first i rows are in. Assumes nothing.
use Rattle.std.proofs.Common.{◌≡◌, ◌-◌, ◌≤◌}
use Rattle.starts.specs.Bancroft.{rhs_to}
use Rattle.starts.proofs.bancroft.right_side.Given as goal

abbrev pub invariant-loop-i : goal.invariant-loop-i
invariant-loop-i l = (l.i ≤ l.k) × (l.bt ≡ rhs_to l.sites l.z l.centroid l.alpha l.i)

abbrev pub decreases-loop-i : goal.decreases-loop-i
decreases-loop-i l = l.k - l.i
