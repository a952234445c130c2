-- `libm::kernels::qx` meets its contract: the high words from 0x3FD33333 to 0x3FE90000 have 2 to spare in the exponent. Assumes nothing.
use Rattle.std.proofs.Common.{le-ltb, lt-ltb}
use Rattle.libm.specs.Kernels.{qx}
use Rattle.libm.proofs.kernels.qx.Goals as goal

pub returns-then-ix-gt1072234496 : goal.returns-then-ix-gt1072234496
unfolding qx
returns-then-ix-gt1072234496 c = rw (lt-ltb _ _ c.if-ix-gt1072234496.true)

pub returns : goal.returns
unfolding qx
returns c = rw (le-ltb _ _ c.if-ix-gt1072234496.false, c.word.ensures)
