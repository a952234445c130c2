-- `dense::put_column` meets its contract. The invariant: m holds x in the column's rows below `row`, and keeps its length. The measure is what is
-- left of n. Assumes nothing.
use mathlib.Core.Path.{◌≡◌}
use Prim.Native.Nat.{◌≤◌, ◌-◌}
use lib.ListN.{length}
use Rattle.dense.specs.Inverse.{put_column_to}
use Rattle.dense.proofs.put_column.Given as goal

abbrev pub invariant-loop-row : goal.invariant-loop-row
invariant-loop-row l = (l.row ≤ l.n) × (length l.m ≡ length l.initial.m) × (l.m ≡ put_column_to l.initial.m l.n l.column l.x l.row)

abbrev pub decreases-loop-row : goal.decreases-loop-row
decreases-loop-row l = l.n - l.row
