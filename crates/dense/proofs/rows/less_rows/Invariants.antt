-- `dense::rows::less_rows` meets its contract. The invariant: the first k rows are taken from the row, and r keeps its length.
-- The two ways on are the two cases of the definition. The measure is what is left of i. Assumes nothing.
use mathlib.Core.Path.{◌≡◌}
use Prim.Native.Nat.{◌≤◌, ◌-◌}
use lib.ListN.{length}
use Rattle.dense.specs.Rows.{less_rows_to}
use Rattle.dense.proofs.rows.less_rows.Given as goal

abbrev pub invariant-loop-k : goal.invariant-loop-k
invariant-loop-k l = (l.k ≤ l.i) × (length l.r ≡ length l.initial.r) × (l.r ≡ less_rows_to l.l l.n l.width l.i l.initial.r l.k)

abbrev pub decreases-loop-k : goal.decreases-loop-k
decreases-loop-k l = l.i - l.k
