-- `geo::to_ecef` meets its contract, call by call. Assumes nothing.
use Rattle.geo.specs.Geo.{to_ecef}
use Rattle.geo.proofs.Constants.{eccentricity}
use Rattle.geo.proofs.to_ecef.Goals as goal

pub returns : goal.returns
unfolding to_ecef
returns c =
    rw (
      c.prime_vertical-n.ensures,
      c.sincos-lon.ensures,
      c.to_radians-2.ensures,
      c.sincos-lat.ensures,
      c.to_radians.ensures,
      eccentricity,
    )
