-- `dense::symmetrise_row` meets its contract. The invariant: m holds the means of the columns from row + 1 to below `column`, and keeps its length.
-- The measure is what is left of n. Assumes nothing.
use mathlib.Core.Path.{◌≡◌}
use Prim.Native.Nat.{◌≤◌, ◌+◌, ◌-◌}
use lib.ListN.{length}
use Rattle.dense.specs.Inverse.{symmetrise_row_to}
use Rattle.dense.proofs.symmetrise_row.Given as goal

abbrev pub invariant-loop-column : goal.invariant-loop-column
invariant-loop-column l = (l.row + 1 ≤ l.column) × (l.column ≤ l.n) × (length l.m ≡ length l.initial.m) × (l.m ≡ symmetrise_row_to l.n l.row l.initial.m (l.column - (l.row + 1)))

abbrev pub decreases-loop-column : goal.decreases-loop-column
decreases-loop-column l = l.n - l.column
