-- `geo::from_ecef` meets its contract. The loop's invariant: after k rounds height and x are those of `bowring_to`, and lat is the arc tangent of z /
-- x. Where a round hands x back, `settled` has the rounds that are left. Assumes nothing.
use Rattle.std.proofs.Common.{◌≡◌, get_or, add-one, arith, rules}
use lib.Ieee.{nan}
use Rattle.geo.specs.Geo.{bowring_to, from_ecef}
use Rattle.geo.proofs.Constants.{eccentricity}
use Rattle.geo.proofs.Rounds.{all, settled}
use Rattle.geo.proofs.from_ecef.Goals.{else-loop-k-test, then-loop-k-test+then-same}
use Rattle.geo.proofs.from_ecef.Goals as goal

pub loop-k-init : goal.loop-k-init
unfolding bowring_to
loop-k-init c = (search rules, rw eccentricity, c.atan2-lat.ensures)

pub loop-k-preserved : goal.loop-k-preserved
unfolding bowring_to
loop-k-preserved c =
    let inv = c.loop-k.invariant in
    (omega arith, rw (add-one, inv.1, ← inv.2, ← c.bowring-found.ensures), c.atan2-lat-in-loop-k.ensures)

pub returns : goal.returns
unfolding from_ecef
returns c =
    let inv = c.loop-k.invariant in
    let last : bowring_to c.hypot-p.result (get_or c.args.ecef 2 nan) 6 ≡ record { height = c.loop-k-test.height; x = c.loop-k.x } =
    elim c.loop-k-test.branch [
      | else-loop-k-test w ↦ all _ _ _ _ _ _ inv.1 (omega arith) w.height-is
      | then-loop-k-test+then-same w ↦
          settled _ _ _ _ _ _ inv.1 _ _ w.loop-k-test.true inv.2 w.bowring-found.ensures (w.same.ensures w.if-same.true) w.height-is
    ] in
    rw (
      c.to_degrees-2.ensures,
      c.to_degrees.ensures,
      ← c.atan2-lon.ensures,
      ← c.hypot-p.ensures,
      last,
      ← inv.2,
    )
