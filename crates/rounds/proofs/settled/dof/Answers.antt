-- `rounds::settled::dof` meets its contract: the count is at most 32, so that one more fits. Assumes nothing.
use Rattle.std.proofs.Common.{arith}
use Rattle.sets.specs.Mask.{has}
use Rattle.sets.proofs.Counting.{count-le}
use Rattle.rounds.proofs.settled.dof.Goals as goal

pub overflow_add-count : goal.overflow_add-count
overflow_add-count c = omega (arith, c.count-count.ensures, count-le (has c.args.used) 32)

pub returns-then-has_altitude : goal.returns-then-has_altitude
returns-then-has_altitude c = rw (← c.has_altitude.ensures, c.if-has_altitude.true, ← c.count-count.ensures, c.less_four.ensures)

pub returns : goal.returns
returns c = rw (
  ← c.has_altitude.ensures,
  c.if-has_altitude.false,
  ← c.count-count.ensures,
  c.less_four-2.ensures,
) (omega arith)
