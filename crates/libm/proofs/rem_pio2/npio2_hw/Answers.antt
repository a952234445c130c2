-- `libm::rem_pio2::npio2_hw` meets its contract: each return is one case of the definition. Assumes nothing.
use Rattle.std.proofs.Common.{eq-eqb, ne_eqb}
use Rattle.libm.specs.RemPio2.{npio2_hw}
use Rattle.libm.proofs.rem_pio2.npio2_hw.Goals as goal

pub returns-then-n-eq1 : goal.returns-then-n-eq1
unfolding npio2_hw
returns-then-n-eq1 c = rw (eq-eqb _ _ c.if-n-eq1.true)

pub returns-then-n-eq2 : goal.returns-then-n-eq2
unfolding npio2_hw
returns-then-n-eq2 c = rw (ne_eqb _ _ c.if-n-eq1.false, eq-eqb _ _ c.if-n-eq2.true)

pub returns-then-n-eq3 : goal.returns-then-n-eq3
unfolding npio2_hw
returns-then-n-eq3 c = rw (ne_eqb _ _ c.if-n-eq1.false, ne_eqb _ _ c.if-n-eq2.false, eq-eqb _ _ c.if-n-eq3.true)

pub returns : goal.returns
unfolding npio2_hw
returns c = rw (ne_eqb _ _ c.if-n-eq1.false, ne_eqb _ _ c.if-n-eq2.false, ne_eqb _ _ c.if-n-eq3.false)
