-- `dense::forward` meets its contract. The invariant: y holds the solution in its rows below i and b in the others (`forward-keeps`), and keeps its
-- length. The measure is what is left of n. Assumes nothing.
use mathlib.Core.Path.{◌≡◌}
use Prim.Native.Nat.{◌≤◌, ◌-◌}
use lib.ListN.{length}
use Rattle.dense.specs.Solve.{forward_to}
use Rattle.dense.proofs.forward.Given as goal

abbrev pub invariant-loop-i : goal.invariant-loop-i
invariant-loop-i l = (l.i ≤ l.n) × (length l.y ≡ length l.initial.y) × (l.y ≡ forward_to l.l l.n l.initial.y l.i)

abbrev pub decreases-loop-i : goal.decreases-loop-i
decreases-loop-i l = l.n - l.i
