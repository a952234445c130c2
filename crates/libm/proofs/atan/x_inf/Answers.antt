-- `libm::atan::x_inf` meets its contract: each return is one case of the definition. Assumes nothing.
use Rattle.std.proofs.Common.{eq-eqb, ne_eqb}
use Rattle.libm.specs.Atan.{x_inf}
use Rattle.libm.proofs.atan.x_inf.Goals as goal

pub returns-then-iy-eq2146435072 : goal.returns-then-iy-eq2146435072
unfolding x_inf
returns-then-iy-eq2146435072 c = rw (eq-eqb _ _ c.if-iy-eq2146435072.true, ← c.switch.ensures)

pub returns : goal.returns
unfolding x_inf
returns c = rw (ne_eqb _ _ c.if-iy-eq2146435072.false, ← c.switch-2.ensures)
