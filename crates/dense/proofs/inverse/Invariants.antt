-- `dense::inverse` meets its contract. The invariant: m holds the solutions of the unit vectors below `column` in its columns, and keeps its length.
-- Each is solved in the first n of 32 entries (`unit-part`). The measure is what is left of n. Assumes nothing.
use mathlib.Core.Path.{◌≡◌}
use Prim.Native.Nat.{◌≤◌, ◌-◌}
use lib.ListN.{length}
use Rattle.dense.specs.Inverse.{columns_to}
use Rattle.dense.proofs.inverse.Given as goal

abbrev pub invariant-loop-column : goal.invariant-loop-column
invariant-loop-column l = (l.column ≤ l.n) × (length l.m ≡ length l.initial.m) × (l.m ≡ columns_to l.l l.n l.initial.m l.column)

abbrev pub decreases-loop-column : goal.decreases-loop-column
decreases-loop-column l = l.n - l.column
