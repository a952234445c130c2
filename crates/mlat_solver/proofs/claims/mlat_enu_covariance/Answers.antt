-- `mlat_solver::claims::mlat_enu_covariance` meets its contract: the array has the nine entries of what `limits::enu_covariance` gives. Assumes
-- nothing.
use mathlib.Core.Path.{ap, ap₂, ◌∙◌}
use Rattle.limits.specs.Local.{enu_covariance}
use Rattle.mlat_solver.specs.Lent.{nine_of}
use Rattle.mlat_solver.proofs.claims.mlat_enu_covariance.Goals as goal

pub returns : goal.returns
returns c = c.nine.ensures ∙ ap nine_of (c.enu_covariance.ensures
    ∙ ap₂ enu_covariance c.geodetic.ensures c.rows.ensures)
