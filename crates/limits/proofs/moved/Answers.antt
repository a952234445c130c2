-- `limits::moved` meets its contract: the magnitudes are those that `abs` gives, and `rounding-x` and `rounding-t` have the constants' bits. Assumes
-- nothing.
use Rattle.limits.specs.Limits.{moved}
use Rattle.limits.proofs.Constants.{rounding-x, rounding-t}
use Rattle.limits.proofs.moved.Goals as goal

pub returns : goal.returns
unfolding moved
returns c = rw (
  rounding-x,
  rounding-t,
  ← c.abs.ensures,
  ← c.abs-2.ensures,
  ← c.abs-3.ensures,
  ← c.abs-4.ensures,
)
