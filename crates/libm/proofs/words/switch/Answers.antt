-- `libm::words::switch` meets its contract: each return is one case of the definition. Assumes nothing.
use Rattle.std.proofs.Common.{eq-eqb, ne_eqb}
use Rattle.libm.specs.Words.{switch}
use Rattle.libm.proofs.words.switch.Goals as goal

pub returns-then-m-eq0 : goal.returns-then-m-eq0
unfolding switch
returns-then-m-eq0 c = rw (eq-eqb _ _ c.if-m-eq0.true)

pub returns-then-m-eq1 : goal.returns-then-m-eq1
unfolding switch
returns-then-m-eq1 c = rw (ne_eqb _ _ c.if-m-eq0.false, eq-eqb _ _ c.if-m-eq1.true)

pub returns-then-m-eq2 : goal.returns-then-m-eq2
unfolding switch
returns-then-m-eq2 c = rw (ne_eqb _ _ c.if-m-eq0.false, ne_eqb _ _ c.if-m-eq1.false, eq-eqb _ _ c.if-m-eq2.true)

pub returns : goal.returns
unfolding switch
returns c = rw (ne_eqb _ _ c.if-m-eq0.false, ne_eqb _ _ c.if-m-eq1.false, ne_eqb _ _ c.if-m-eq2.false)
