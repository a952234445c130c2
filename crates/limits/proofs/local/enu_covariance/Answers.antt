-- `limits::local::enu_covariance` meets its contract: row by row, at the basis that `geo::enu_basis` gives. Assumes nothing.
use Rattle.limits.specs.Local.{enu_covariance}
use Rattle.limits.proofs.local.enu_covariance.Goals as goal

pub returns : goal.returns
unfolding enu_covariance
returns c = rw (
  c.local_row-3.ensures,
  c.local_row-2.ensures,
  c.local_row.ensures,
  c.enu_basis-basis.ensures,
)
