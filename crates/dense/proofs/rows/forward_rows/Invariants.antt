-- `dense::rows::forward_rows` meets its contract. The invariant: r holds R in its rows below i and Q in the others, and keeps its
-- length. That row i lies in r is `rows_in`. The measure is what is left of n. Assumes nothing.
use mathlib.Core.Path.{◌≡◌}
use Prim.Native.Nat.{◌≤◌, ◌-◌}
use lib.ListN.{length}
use Rattle.dense.specs.Rows.{forward_rows_to}
use Rattle.dense.proofs.rows.forward_rows.Given as goal

abbrev pub invariant-loop-i : goal.invariant-loop-i
invariant-loop-i l = (l.i ≤ l.n) × (length l.r ≡ length l.initial.r) × (l.r ≡ forward_rows_to l.l l.n l.width l.initial.r l.i)

abbrev pub decreases-loop-i : goal.decreases-loop-i
decreases-loop-i l = l.n - l.i
