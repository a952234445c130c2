-- `limits::chi2_limit` meets its contract: for every dof above 0 the steps are the definition's, with the root that `sqrt` gives. Assumes nothing.
use borrow.Author.Tests.{eq-eqb, ne_eqb}
use Rattle.limits.specs.Limits.{chi2_limit}
use Rattle.limits.proofs.Constants.{tail-z, nine}
use Rattle.limits.proofs.chi2_limit.Goals as goal

pub returns-then-dof-eq0 : goal.returns-then-dof-eq0
unfolding chi2_limit
returns-then-dof-eq0 c = rw (eq-eqb _ _ c.if-dof-eq0.true)

pub returns : goal.returns
unfolding chi2_limit
returns c = rw (ne_eqb _ _ c.if-dof-eq0.false, tail-z, nine, ← c.sqrt.ensures)
