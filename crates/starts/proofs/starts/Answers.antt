-- `starts::starts` meets its contract: from four on the lifted centroid is packed behind Bancroft's roots (`starts-many`), under four the ring behind
-- it (`starts-few`). Assumes nothing.
use Rattle.std.proofs.Common.{arith, le-leb}
use borrow.Author.Tests.{lt-leb}
use Rattle.starts.specs.Starts.{starts_after}
use Rattle.starts.proofs.Packed.{starts-many, starts-few}
use Rattle.starts.proofs.starts.Goals as goal

pub returns-then-k-ge4 : goal.returns-then-k-ge4
unfolding starts_after
returns-then-k-ge4 c =
    starts-many _ _ _ _ _ _ _ _ _ _ _ c.centroid-middle.ensures c.from_ecef-ground.ensures c.start_height-height.ensures
    c.lifted-above.ensures c.first-points.ensures
    (le-leb 4 c.args.k (omega (arith, c.if-k-ge4.true))) _ c.with_bancroft.ensures c.push.ensures

pub returns : goal.returns
unfolding starts_after
returns c =
    starts-few _ _ _ _ _ _ _ _ _ _ _ c.centroid-middle.ensures c.from_ecef-ground.ensures c.start_height-height.ensures c.lifted-above.ensures
    c.first-points.ensures
    (lt-leb 4 c.args.k (omega (arith, c.if-k-ge4.false))) _ _ c.enu_basis-basis.ensures
    c.push-2.ensures c.with_ring.ensures
