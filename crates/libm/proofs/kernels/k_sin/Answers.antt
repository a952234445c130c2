-- `libm::kernels::k_sin` meets its contract: each return is one case of the definition, step by step. Assumes nothing.
use Rattle.std.proofs.Common.{le-ltb, lt-ltb, eq-eqb, ne_eqb}
use Rattle.libm.specs.Kernels.{k_sin}
use Rattle.libm.proofs.kernels.k_sin.Goals as goal

pub returns-then-high-lt1044381696 : goal.returns-then-high-lt1044381696
unfolding k_sin
returns-then-high-lt1044381696 c = rw (← c.high.ensures, lt-ltb _ _ c.if-high-lt1044381696.true)

pub returns-then-iy-eq0 : goal.returns-then-iy-eq0
unfolding k_sin
returns-then-iy-eq0 c = rw (← c.high.ensures, le-ltb _ _ c.if-high-lt1044381696.false, eq-eqb _ _ c.if-iy-eq0.true)

pub returns : goal.returns
unfolding k_sin
returns c = rw (← c.high.ensures, le-ltb _ _ c.if-high-lt1044381696.false, ne_eqb _ _ c.if-iy-eq0.false)
