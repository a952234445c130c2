-- `dense::column` meets its contract. The invariant: l holds the column's rows from j + 1 to below i, and keeps its length. The measure is what is
-- left of n. Assumes nothing.
use mathlib.Core.Path.{◌≡◌}
use Prim.Native.Nat.{◌≤◌, ◌+◌, ◌-◌}
use lib.ListN.{length}
use Rattle.dense.specs.Factor.{column_to}
use Rattle.dense.proofs.column.Given as goal

abbrev pub invariant-loop-i : goal.invariant-loop-i
invariant-loop-i l = (l.j + 1 ≤ l.i) × (l.i ≤ l.n) × (length l.l ≡ length l.initial.l) × (l.l ≡ column_to l.a l.n l.j l.root l.initial.l (l.i - (l.j + 1)))

abbrev pub decreases-loop-i : goal.decreases-loop-i
decreases-loop-i l = l.n - l.i
