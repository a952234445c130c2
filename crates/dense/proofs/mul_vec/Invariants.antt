-- `dense::mul_vec` meets its contract. The invariant: y holds the product in its rows below `row`, and keeps its length. The
-- measure is what is left of n. Assumes nothing.
use mathlib.Core.Path.{◌≡◌}
use Prim.Native.Nat.{◌≤◌, ◌-◌}
use lib.ListN.{length}
use Rattle.dense.specs.Entries.{mul_vec_to}
use Rattle.dense.proofs.mul_vec.Given as goal

abbrev pub invariant-loop-row : goal.invariant-loop-row
invariant-loop-row l = (l.row ≤ l.n) × (length l.y ≡ length l.initial.y) × (l.y ≡ mul_vec_to l.a l.n l.v l.initial.y l.row)

abbrev pub decreases-loop-row : goal.decreases-loop-row
decreases-loop-row l = l.n - l.row
