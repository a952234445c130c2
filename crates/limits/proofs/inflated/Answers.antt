-- `limits::inflated` meets its contract: the two returns are the two cases of the definition. Assumes nothing.
use borrow.Author.Tests.{eq-eqb, ne_eqb}
use Rattle.limits.specs.Local.{inflated}
use Rattle.limits.proofs.Constants.{inflation, least}
use Rattle.limits.proofs.inflated.Goals as goal

pub returns-then-i-j : goal.returns-then-i-j
unfolding inflated
returns-then-i-j c = rw (eq-eqb _ _ c.if-i-j.true, inflation, least)

pub returns : goal.returns
unfolding inflated
returns c = rw (ne_eqb _ _ c.if-i-j.false, inflation)
