-- `dense::rows::less_row` meets its contract. The invariant: the factor times row k is taken from the row's first j entries, and
-- r keeps its length. That an entry lies in r is `place_in`. The measure is what is left of the width. Assumes nothing.
use mathlib.Core.Path.{◌≡◌}
use Prim.Native.Nat.{◌≤◌, ◌-◌}
use lib.ListN.{length}
use Rattle.dense.specs.Rows.{less_row_to}
use Rattle.dense.proofs.rows.less_row.Given as goal

abbrev pub invariant-loop-j : goal.invariant-loop-j
invariant-loop-j l = (l.j ≤ l.width) × (length l.r ≡ length l.initial.r) × (l.r ≡ less_row_to l.width l.i l.k l.factor l.initial.r l.j)

abbrev pub decreases-loop-j : goal.decreases-loop-j
decreases-loop-j l = l.width - l.j
