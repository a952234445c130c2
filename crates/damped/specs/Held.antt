-- The place of a fit, as the code holds it beside the fit. Nothing that must be believed cites it. Definitions only.
use Rattle.std.specs.Prelude.{cond}
use Rattle.geo.specs.Geo.{from_ecef}
use Rattle.geo.specs.Held.{nowhere}
use Rattle.problem.specs.Problem.{position}
use Rattle.damped.specs.declared.Placed as code
use Rattle.damped.specs.declared.Fit.{Fit}

-- `geo::from_ecef` of a fit's parameters, which `plausible`, the altitude's row and `finish` ask for
abbrev pub placed : Fit → code.Placed
placed fit = record { fit = fit; place = cond fit.ok (from_ecef (position fit.params)) nowhere }
