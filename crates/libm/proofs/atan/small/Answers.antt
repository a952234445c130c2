-- `libm::atan::small` meets its contract: the returns are its two cases. Assumes nothing.
use Rattle.std.proofs.Common.{le-ltb, lt-ltb}
use Rattle.libm.proofs.atan.small.Goals as goal

pub returns-then-ix-lt1042284544 : goal.returns-then-ix-lt1042284544
returns-then-ix-lt1042284544 c = rw (lt-ltb _ 0x3e200000 c.if-ix-lt1042284544.true)

pub returns : goal.returns
returns c = rw (le-ltb _ 0x3e200000 c.if-ix-lt1042284544.false, c.series.ensures)
