-- `solve_many::passed` ends: each turn but the last passes over a byte or more.
use Rattle.std.proofs.Common.{◌≤◌}
use Rattle.solve_many.proofs.passed.Given as goal

abbrev pub invariant-loop-left : goal.invariant-loop-left
invariant-loop-left g l = l.left ≤ l.fn.n

abbrev pub decreases-loop-left : goal.decreases-loop-left
decreases-loop-left g l = l.left
