-- `libm::atan::atan2` meets its contract: each return is one case of the definition. Assumes nothing.
use Rattle.std.proofs.Common.{eq-eqb, ne_eqb}
use Rattle.libm.specs.Atan.{atan2}
use Rattle.libm.proofs.atan.atan2.Goals as goal

pub returns-then-x : goal.returns-then-x
unfolding atan2
returns-then-x c = rw c.if-x.true

pub returns-then-y : goal.returns-then-y
unfolding atan2
returns-then-y c = rw (c.if-x.false, c.if-y.true)

pub returns-then-x-2 : goal.returns-then-x-2
unfolding atan2
returns-then-x-2 c = rw (c.if-x.false, c.if-y.false, c.if-x-2.true, ← c.atan.ensures)

pub returns-then-y-2 : goal.returns-then-y-2
unfolding atan2
returns-then-y-2 c =
    rw (c.if-x.false, c.if-y.false, c.if-x-2.false, c.if-y-2.true)
    (rw (c.switch.ensures, c.signs-m.ensures))

pub returns-then-x-3 : goal.returns-then-x-3
unfolding atan2
returns-then-x-3 c =
    rw (c.if-x.false, c.if-y.false, c.if-x-2.false, c.if-y-2.false, c.if-x-3.true)
    (rw (← c.quarter.ensures))

pub returns-then-high-eq2146435072 : goal.returns-then-high-eq2146435072
unfolding atan2
returns-then-high-eq2146435072 c =
    rw (c.if-x.false, c.if-y.false, c.if-x-2.false, c.if-y-2.false)
    (rw (c.if-x-3.false, ← c.high.ensures, eq-eqb _ _ c.if-high-eq2146435072.true)
    (rw (c.x_inf.ensures, c.high-then-high-eq2146435072.ensures, c.signs-m.ensures)))

pub returns-then-high-eq2146435072-2 : goal.returns-then-high-eq2146435072-2
unfolding atan2
returns-then-high-eq2146435072-2 c =
    rw (c.if-x.false, c.if-y.false, c.if-x-2.false, c.if-y-2.false, c.if-x-3.false)
    (rw (← c.high.ensures, ne_eqb _ _ c.if-high-eq2146435072.false, ← c.high-2.ensures, eq-eqb _ _ c.if-high-eq2146435072-2.true)
    (rw (← c.quarter-then-high-eq2146435072-2.ensures)))

pub returns : goal.returns
unfolding atan2
returns c =
    rw (c.if-x.false, c.if-y.false, c.if-x-2.false, c.if-y-2.false, c.if-x-3.false)
    (rw (← c.high.ensures, ne_eqb _ _ c.if-high-eq2146435072.false, ← c.high-2.ensures)
    (rw (ne_eqb _ _ c.if-high-eq2146435072-2.false, c.switch-2.ensures, c.quotient-z.ensures, c.signs-m.ensures)))
