-- `mlat_solver::geodesy::mlat_to_ecef` meets its contract: the three numbers are the position that `geo::to_ecef` takes. Assumes nothing.
use mathlib.Core.Path.{ap, ◌∙◌}
use Rattle.geo.specs.Geo.{to_ecef}
use Rattle.mlat_solver.proofs.geodesy.mlat_to_ecef.Goals as goal

pub returns : goal.returns
returns c = c.to_ecef.ensures ∙ ap to_ecef c.geodetic.ensures
