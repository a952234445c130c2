-- `libm::rem_pio2::rem_pio2` meets its contract: each return is one case of the definition. Assumes nothing.
use Rattle.std.proofs.Common.{le-ltb, lt-ltb, eq-eqb, ne_eqb}
use Rattle.libm.specs.RemPio2.{rem_pio2}
use Rattle.libm.proofs.rem_pio2.rem_pio2.Goals as goal

pub returns-then-ix-ne1073291771 : goal.returns-then-ix-ne1073291771
unfolding rem_pio2
returns-then-ix-ne1073291771 c = rw (
  ← c.high-ix.ensures,
  lt-ltb _ _ c.if-ix-lt1073928572.true,
  ne_eqb _ _ c.if-ix-ne1073291771.true,
  ← c.split.ensures,
)

pub returns-then-ix-lt1073928572 : goal.returns-then-ix-lt1073928572
unfolding rem_pio2
returns-then-ix-lt1073928572 c = rw (
  ← c.high-ix.ensures,
  lt-ltb _ _ c.if-ix-lt1073928572.true,
  eq-eqb _ _ c.if-ix-ne1073291771.false,
  c.split-then-ix-lt1073928572.ensures,
)

pub returns : goal.returns
unfolding rem_pio2
returns c = rw (← c.high-ix.ensures, le-ltb _ _ c.if-ix-lt1073928572.false, ← c.medium.ensures)
