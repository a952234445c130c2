-- `near::hold` meets its contract. The invariant: the nearest of the fixes before k is held. Assumes nothing.
use Rattle.std.proofs.Common.{◌≡◌, ◌-◌, ◌≤◌}
use Rattle.near.specs.Near.{held_to}
use Rattle.near.proofs.hold.Given as goal

abbrev pub invariant-loop-k : goal.invariant-loop-k
invariant-loop-k l = (l.k ≤ l.n) × (l.held ≡ held_to l.file l.point l.k)

abbrev pub decreases-loop-k : goal.decreases-loop-k
decreases-loop-k l = l.n - l.k
