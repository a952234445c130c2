-- `mlat_solver::geodesy::mlat_from_ecef` meets its contract: the array has the fields of what `geo::from_ecef` gives. Assumes nothing.
use mathlib.Core.Path.{ap}
use Rattle.mlat_solver.specs.Lent.{three_of}
use Rattle.mlat_solver.proofs.geodesy.mlat_from_ecef.Goals as goal

pub returns : goal.returns
returns c = ap three_of c.from_ecef-position.ensures
