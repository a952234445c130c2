-- `libm::atan::reduce` meets its contract: each return is one case of the definition. Assumes nothing.
use Rattle.std.proofs.Common.{le-ltb, lt-ltb}
use Rattle.libm.specs.Atan.{reduce}
use Rattle.libm.proofs.atan.reduce.Goals as goal

pub returns-then-ix-lt1072037888 : goal.returns-then-ix-lt1072037888
unfolding reduce
returns-then-ix-lt1072037888 c = rw (lt-ltb _ _ c.if-ix-lt1072889856.true, lt-ltb _ _ c.if-ix-lt1072037888.true)

pub returns-then-ix-lt1072889856 : goal.returns-then-ix-lt1072889856
unfolding reduce
returns-then-ix-lt1072889856 c = rw (lt-ltb _ _ c.if-ix-lt1072889856.true, le-ltb _ _ c.if-ix-lt1072037888.false)

pub returns-then-ix-lt1073971200 : goal.returns-then-ix-lt1073971200
unfolding reduce
returns-then-ix-lt1073971200 c = rw (le-ltb _ _ c.if-ix-lt1072889856.false, lt-ltb _ _ c.if-ix-lt1073971200.true)

pub returns : goal.returns
unfolding reduce
returns c = rw (le-ltb _ _ c.if-ix-lt1072889856.false, le-ltb _ _ c.if-ix-lt1073971200.false)
