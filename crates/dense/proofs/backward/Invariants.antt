-- `dense::backward` meets its contract. The invariant: x holds the solution in its last m rows of n and y in the others
-- (`backward-keeps`), and keeps its length. The measure is what is left of n. Assumes nothing.
use mathlib.Core.Path.{◌≡◌}
use Prim.Native.Nat.{◌≤◌, ◌-◌}
use lib.ListN.{length}
use Rattle.dense.specs.Solve.{backward_to}
use Rattle.dense.proofs.backward.Given as goal

abbrev pub invariant-loop-m : goal.invariant-loop-m
invariant-loop-m l = (l.m ≤ l.n) × (length l.x ≡ length l.initial.x) × (l.x ≡ backward_to l.l l.n l.initial.x l.m)

abbrev pub decreases-loop-m : goal.decreases-loop-m
decreases-loop-m l = l.n - l.m
