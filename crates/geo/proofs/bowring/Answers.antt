-- `geo::bowring` meets its contract, call by call. Assumes nothing.
use Rattle.geo.specs.Geo.{bowring}
use Rattle.geo.proofs.Constants.{eccentricity}
use Rattle.geo.proofs.bowring.Goals as goal

pub returns : goal.returns
unfolding bowring
returns c = rw (eccentricity, ← c.sincos-at.ensures, ← c.prime_vertical-n.ensures, ← c.height-h.ensures)
