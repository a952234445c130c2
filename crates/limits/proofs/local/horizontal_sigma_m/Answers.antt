-- `limits::local::horizontal_sigma_m` meets its contract: the root of the greater of half the trace and 0, call by call. Assumes nothing.
use Rattle.limits.specs.Local.{horizontal_sigma_m}
use Rattle.limits.proofs.local.horizontal_sigma_m.Goals as goal

pub returns : goal.returns
unfolding horizontal_sigma_m
returns c = rw (c.sqrt.ensures, c.max.ensures, c.enu_covariance-enu.ensures)
