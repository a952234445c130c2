-- `starts::lifted::with_circle` meets its contract: the invariant: the starts of the first `step` bearings are packed (`circle-more`). Assumes
-- nothing.
use Rattle.std.proofs.Common.{◌≡◌, ◌-◌, ◌≤◌}
use Rattle.starts.specs.Held.{packed}
use Rattle.starts.specs.Lifted.{circle_to}
use Rattle.starts.proofs.lifted.with_circle.Given as goal

abbrev pub invariant-loop-step : goal.invariant-loop-step
invariant-loop-step l = (l.step ≤ 8)
    × (l.all ≡ packed l.initial.all (circle_to l.sites l.z l.k l.height l.centroid l.basis l.radius l.step))

abbrev pub decreases-loop-step : goal.decreases-loop-step
decreases-loop-step l = 8 - l.step
