-- `libm::rem_pio2::lost` meets its contract: the returns are the difference, which stops at 0. Assumes nothing.
use Rattle.std.proofs.Common.{arith}
use Rattle.libm.specs.RemPio2.{lost}
use Rattle.libm.proofs.rem_pio2.lost.Goals as goal

pub returns-then-k-j : goal.returns-then-k-j
unfolding lost
returns-then-k-j c = rw (← c.high-j.ensures, ← c.high-k.ensures)

pub returns : goal.returns
unfolding lost
returns c = rw (← c.high-j.ensures, ← c.high-k.ensures) (omega arith)
