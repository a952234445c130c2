-- `starts::lifted::with_circle` meets its contract: the invariant: the starts of the first `step` bearings are packed (`circle-more`). Assumes
-- nothing.
use Rattle.std.proofs.Common.{◌≡◌, refl, add-one, arith, rules}
use Rattle.starts.specs.Held.{packed}
use Rattle.starts.specs.Lifted.{circle_to}
use Rattle.starts.proofs.Packed.{circle-more}
use Rattle.starts.proofs.lifted.with_circle.Goals as goal

pub loop-step-init : goal.loop-step-init
unfolding packed circle_to
loop-step-init c = (search rules, refl)

pub loop-step-preserved : goal.loop-step-preserved
loop-step-preserved c = (
  omega arith,
  rw add-one (circle-more _ _ _ _ _ _ _ _ _ _ _ c.loop-step.invariant.1 _ c.ring_place.ensures
      _ c.from_ecef-place.ensures _ c.lifted.ensures c.push-next.ensures),
)

pub returns : goal.returns
returns c = let e : c.loop-step.step ≡ 8 = omega arith in rw e at c.loop-step.invariant.1
