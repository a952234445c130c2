-- `dense::triangular::mirrored_row` meets its contract. The invariant: m holds the row's first j entries and their mirrors, and
-- keeps its length. The measure is what is left of the row. Assumes nothing.
use mathlib.Core.Path.{◌≡◌}
use Prim.Native.Nat.{◌≤◌, ◌+◌, ◌-◌}
use lib.ListN.{length}
use Rattle.dense.specs.Mirrored.{mirrored_row_to}
use Rattle.dense.specs.Triangular.{columns_dot}
use Rattle.dense.proofs.triangular.mirrored_row.Given as goal

abbrev pub invariant-loop-j : goal.invariant-loop-j
invariant-loop-j l = (l.j ≤ l.i + 1) × (length l.m ≡ length l.initial.m) × (l.m ≡ mirrored_row_to (columns_dot l.inv l.n) l.n l.i l.initial.m l.j)

abbrev pub decreases-loop-j : goal.decreases-loop-j
decreases-loop-j l = l.i + 1 - l.j
