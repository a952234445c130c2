-- `mlat_solver::geodesy::mlat_enu_basis` meets its contract: the array has the nine entries of what `geo::enu_basis` gives, and they are bounded as
-- promised (`basis`). Assumes nothing.
use mathlib.Core.Path.{ap, ◌∙◌}
use Rattle.mlat_solver.specs.Lent.{nine_of}
use Rattle.mlat_solver.proofs.Display.{basis}
use Rattle.mlat_solver.proofs.geodesy.mlat_enu_basis.Goals as goal

pub returns : goal.returns
returns c =
    let e = c.nine.ensures ∙ ap nine_of c.enu_basis.ensures in record {
      value = e;
      meaning = basis _ _ c.well_formed.0.1 c.well_formed.1.0.1 _ e;
    }
