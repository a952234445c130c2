-- `problem::gather` meets its contract. The invariant: the first a values stand in their places. Each index is below 32 by what is asked. Assumes
-- nothing.
use mathlib.Core.Path.{◌≡◌}
use Prim.Native.Nat.{◌≤◌, ◌-◌}
use Rattle.problem.specs.Gathered.{gather_to}
use Rattle.problem.proofs.gather.Given as goal

abbrev pub invariant-loop-a : goal.invariant-loop-a
invariant-loop-a l = (l.a ≤ l.k) × (l.out ≡ gather_to l.values l.index l.initial.out l.a)

abbrev pub decreases-loop-a : goal.decreases-loop-a
decreases-loop-a l = l.k - l.a
