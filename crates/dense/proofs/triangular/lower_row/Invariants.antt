-- `dense::triangular::lower_row` meets its contract. The invariant: inv holds the row's first j entries, and keeps its length.
-- The factor's entries lie `along` its row, those of inv `down` its column. The measure is what is left of i. Assumes nothing.
use mathlib.Core.Path.{◌≡◌}
use Prim.Native.Nat.{◌≤◌, ◌-◌}
use lib.ListN.{length}
use Rattle.dense.specs.Triangular.{lower_row_to}
use Rattle.dense.proofs.triangular.lower_row.Given as goal

abbrev pub invariant-loop-j : goal.invariant-loop-j
invariant-loop-j l = (l.j ≤ l.i) × (length l.inv ≡ length l.initial.inv) × (l.inv ≡ lower_row_to l.l l.n l.i l.initial.inv l.j)

abbrev pub decreases-loop-j : goal.decreases-loop-j
decreases-loop-j l = l.i - l.j
