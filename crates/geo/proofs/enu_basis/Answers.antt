-- `geo::enu_basis` meets its contract, call by call. Assumes nothing.
use Rattle.geo.specs.Geo.{enu_basis}
use Rattle.geo.proofs.enu_basis.Goals as goal

pub returns : goal.returns
unfolding enu_basis
returns c =
    rw (
      ← c.to_radians.ensures,
      ← c.sincos-lat.ensures,
      ← c.to_radians-2.ensures,
      ← c.sincos-lon.ensures,
    )
