-- `limits::published_chi2_limit` meets its contract: the reach is the definition's, call by call. Assumes nothing.
use Rattle.limits.specs.Limits.{published_chi2_limit}
use Rattle.limits.proofs.published_chi2_limit.Goals as goal

pub returns : goal.returns
unfolding published_chi2_limit
returns c = rw (← c.chi2_limit.ensures, ← c.sqrt.ensures)
