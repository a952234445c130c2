-- `libm::trig::sin_of` meets its contract: each return is one case of the definition. Assumes nothing.
use Rattle.std.proofs.Common.{eq-eqb, ne_eqb}
use Rattle.libm.specs.Words.{switch}
use Rattle.libm.specs.Trig.{quadrant}
use Rattle.libm.proofs.trig.sin_of.Goals as goal

pub returns-then-n-eq0 : goal.returns-then-n-eq0
unfolding quadrant switch
returns-then-n-eq0 c = rw (eq-eqb _ _ c.if-n-eq0.true, ← c.k_sin.ensures)

pub returns-then-n-eq1 : goal.returns-then-n-eq1
unfolding quadrant switch
returns-then-n-eq1 c = rw (ne_eqb _ _ c.if-n-eq0.false, eq-eqb _ _ c.if-n-eq1.true, ← c.k_cos.ensures)

pub returns-then-n-eq2 : goal.returns-then-n-eq2
unfolding quadrant switch
returns-then-n-eq2 c =
    rw (ne_eqb _ _ c.if-n-eq0.false, ne_eqb _ _ c.if-n-eq1.false, eq-eqb _ _ c.if-n-eq2.true, ← c.k_sin-then-n-eq2.ensures)

pub returns : goal.returns
unfolding quadrant switch
returns c =
    rw (ne_eqb _ _ c.if-n-eq0.false, ne_eqb _ _ c.if-n-eq1.false, ne_eqb _ _ c.if-n-eq2.false, ← c.k_cos-2.ensures)
