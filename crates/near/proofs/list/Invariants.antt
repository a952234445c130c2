-- `near::list` meets its contract. The invariant: the places before k are listed and counted (`Listing`), so that the count is at most
-- k and there is room for the next. Assumes nothing.
use Rattle.std.proofs.Common.{◌-◌, ◌≤◌}
use Rattle.near.specs.Near.{within}
use Rattle.near.proofs.Listing.{Listing}
use Rattle.near.proofs.list.Given as goal

abbrev pub invariant-loop-k : goal.invariant-loop-k
invariant-loop-k l = (l.k ≤ l.n) × Listing (within l.file l.point l.radius) l.initial.places l.k l.count l.places

abbrev pub decreases-loop-k : goal.decreases-loop-k
decreases-loop-k l = l.n - l.k
