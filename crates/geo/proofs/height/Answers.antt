-- `geo::height` meets its contract: each return is one side of the definition's test. Assumes nothing.
use Rattle.geo.specs.Geo.{height}
use Rattle.geo.proofs.Constants.{eccentricity, nano}
use Rattle.geo.proofs.height.Goals as goal

pub returns-then-abs : goal.returns-then-abs
unfolding height
returns-then-abs c = simp (nano, ← c.abs.ensures, c.if-abs.true)

pub returns : goal.returns
unfolding height
returns c = simp (
  nano,
  eccentricity,
  ← c.abs.ensures,
  c.if-abs.false,
  ← c.abs-2.ensures,
  ← c.abs-3.ensures,
)
