-- `mlat_solver::claims::mlat_horizontal_sigma_m` meets its contract: the position and the rows are those that the arrays hold. Assumes nothing.
use mathlib.Core.Path.{ap₂, ◌∙◌}
use Rattle.limits.specs.Local.{horizontal_sigma_m}
use Rattle.mlat_solver.proofs.claims.mlat_horizontal_sigma_m.Goals as goal

pub returns : goal.returns
returns c = c.horizontal_sigma_m.ensures ∙ ap₂ horizontal_sigma_m c.geodetic.ensures c.rows.ensures
