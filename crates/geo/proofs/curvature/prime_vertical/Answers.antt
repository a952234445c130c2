-- `geo::curvature::prime_vertical` meets its contract: `root_at` gives the root whatever the guess. Assumes nothing.
use Rattle.geo.specs.Geo.{prime_vertical}
use Rattle.geo.proofs.Constants.{axis, eccentricity}
use Rattle.geo.proofs.curvature.prime_vertical.Goals as goal

pub returns : goal.returns
unfolding prime_vertical
returns c = rw (axis, eccentricity, ← c.root_at.ensures)
