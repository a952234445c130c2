-- `dense::sandwiched::product_row` meets its contract. The invariant: m holds the row's first j entries, and keeps its length.
-- The measure is what is left of n. Assumes nothing.
use mathlib.Core.Path.{◌≡◌}
use Prim.Native.Nat.{◌≤◌, ◌-◌}
use lib.ListN.{length}
use Rattle.dense.specs.Sandwich.{product_row_to}
use Rattle.dense.proofs.sandwiched.product_row.Given as goal

abbrev pub invariant-loop-j : goal.invariant-loop-j
invariant-loop-j l = (l.j ≤ l.n) × (length l.m ≡ length l.initial.m) × (l.m ≡ product_row_to l.a l.b l.n l.i l.initial.m l.j)

abbrev pub decreases-loop-j : goal.decreases-loop-j
decreases-loop-j l = l.n - l.j
