-- `libm::kernels::k_cos` meets its contract: each return is one case of the definition, step by step. `qx` asks for a high word from 0x3FD33333 on,
-- which the second test shows. Assumes nothing.
use Rattle.std.proofs.Common.{le-ltb, lt-ltb}
use Rattle.libm.specs.Kernels.{k_cos}
use Rattle.libm.proofs.kernels.k_cos.Goals as goal

pub returns-then-ix-lt1044381696 : goal.returns-then-ix-lt1044381696
unfolding k_cos
returns-then-ix-lt1044381696 c = rw (← c.high-ix.ensures, lt-ltb _ _ c.if-ix-lt1044381696.true)

pub returns-then-ix-lt1070805811 : goal.returns-then-ix-lt1070805811
unfolding k_cos
returns-then-ix-lt1070805811 c = rw (← c.high-ix.ensures, le-ltb _ _ c.if-ix-lt1044381696.false, lt-ltb _ _ c.if-ix-lt1070805811.true)

pub returns : goal.returns
unfolding k_cos
returns c = rw (
  ← c.high-ix.ensures,
  le-ltb _ _ c.if-ix-lt1044381696.false,
  le-ltb _ _ c.if-ix-lt1070805811.false,
  ← c.qx-q.ensures,
)
