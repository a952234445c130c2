-- `geo::curvature::root_at` meets its contract: where s passes the check it is the root (`root-below-one`), and elsewhere `binary64::sqrt` gives it.
-- Assumes nothing.
use Rattle.geo.proofs.NearOne.{root-below-one}
use Rattle.geo.proofs.curvature.root_at.Goals as goal

pub nearest-requires : goal.nearest-requires
nearest-requires c = (
  (c.below_one-m.ensures c.if-m-gt0.true).1,
  (c.below_one-r.ensures c.if-r-gt0.true).1,
)

pub returns-then-nearest : goal.returns-then-nearest
returns-then-nearest c =
    root-below-one _ _ _ _ (c.below_one-m.ensures c.if-m-gt0.true) (c.below_one-r.ensures c.if-r-gt0.true)
    (c.nearest.ensures c.if-nearest.true)
