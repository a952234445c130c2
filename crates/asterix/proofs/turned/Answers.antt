-- `asterix::turned` meets its contract: only 2 ^ 25 has the bits that the test looks for. Assumes nothing.
use Rattle.asterix.proofs.Signs.{turn, no-turn}
use Rattle.asterix.proofs.turned.Goals as goal

pub returns-then-m-eq33554432 : goal.returns-then-m-eq33554432
returns-then-m-eq33554432 c = turn _ c.ranges.m c.if-m-eq33554432.true

pub returns : goal.returns
returns c = no-turn _ c.ranges.m c.if-m-eq33554432.false
