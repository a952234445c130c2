-- `starts::lifted::timed` meets its contract: the invariant: the sum is that of the first i times, from the ranges that stand below k (`fill-at`).
-- Assumes nothing.
use Rattle.std.proofs.Common.{◌≡◌, ◌-◌, ◌≤◌}
use Rattle.starts.specs.Lifted.{sent_to}
use Rattle.starts.proofs.lifted.timed.Given as goal

abbrev pub invariant-loop-i : goal.invariant-loop-i
invariant-loop-i l = (l.i ≤ l.k) × (l.sum ≡ sent_to l.sites l.z l.x l.i)

abbrev pub decreases-loop-i : goal.decreases-loop-i
decreases-loop-i l = l.k - l.i
