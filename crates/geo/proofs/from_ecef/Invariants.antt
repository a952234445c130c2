-- `geo::from_ecef` meets its contract. The loop's invariant: after k rounds height and x are those of `bowring_to`, and lat is the arc tangent of z /
-- x. Where a round hands x back, `settled` has the rounds that are left. Assumes nothing.
use Rattle.std.proofs.Common.{◌≡◌, ◌-◌, ◌≤◌}
use Rattle.libm.specs.Atan.{atan2}
use Rattle.geo.specs.Geo.{bowring_to}
use Rattle.geo.proofs.from_ecef.Given as goal

abbrev pub invariant-loop-k : goal.invariant-loop-k
invariant-loop-k l = (l.k ≤ 6) × (bowring_to l.p l.z l.k ≡ record { height = l.height; x = l.x }) × (l.lat ≡ atan2 l.z l.x)

abbrev pub decreases-loop-k : goal.decreases-loop-k
decreases-loop-k l = 6 - l.k
