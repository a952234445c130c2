-- `dense::triangular::diagonal` meets its contract. The invariant: d holds the first i entries, and keeps its length. The measure
-- is what is left of n. Assumes nothing.
use mathlib.Core.Path.{◌≡◌}
use Prim.Native.Nat.{◌≤◌, ◌-◌}
use lib.ListN.{length}
use Rattle.dense.specs.Triangular.{diagonal_to}
use Rattle.dense.proofs.triangular.diagonal.Given as goal

abbrev pub invariant-loop-i : goal.invariant-loop-i
invariant-loop-i l = (l.i ≤ l.n) × (length l.d ≡ length l.initial.d) × (l.d ≡ diagonal_to l.inv l.n l.initial.d l.i)

abbrev pub decreases-loop-i : goal.decreases-loop-i
decreases-loop-i l = l.n - l.i
