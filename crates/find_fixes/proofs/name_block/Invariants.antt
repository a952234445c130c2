-- `find_fixes::name_block` meets its contract. Each turn prints what is said of a place. Assumes nothing.
use Rattle.std.proofs.Common.{◌-◌, ◌≤◌}
use Rattle.find_fixes.proofs.name_block.Given as goal

abbrev pub invariant-loop-k : goal.invariant-loop-k
invariant-loop-k g l = l.k ≤ 256

abbrev pub decreases-loop-k : goal.decreases-loop-k
decreases-loop-k g l = 256 - l.k
