-- `rounds::outliers::looked` meets its contract. After i turns it holds both choices among the first i. Assumes nothing.
use Rattle.std.proofs.Common.{◌≡◌, ◌-◌, ◌≤◌}
use Rattle.dense.specs.Entries.{nth}
use Rattle.sets.specs.Mask.{has}
use Rattle.rounds.specs.Looked.{looked_to}
use Rattle.rounds.proofs.outliers.looked.Given as goal

abbrev pub invariant-loop-i : goal.invariant-loop-i
invariant-loop-i l = (l.i ≤ l.k) × (l.seen ≡ looked_to (has l.kept) (has l.included) (nth l.z) l.i)

abbrev pub decreases-loop-i : goal.decreases-loop-i
decreases-loop-i l = l.k - l.i
