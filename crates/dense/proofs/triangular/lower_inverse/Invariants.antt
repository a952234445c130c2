-- `dense::triangular::lower_inverse` meets its contract. The invariant: inv holds the rows below i, and keeps its length. The
-- measure is what is left of n. Assumes nothing.
use mathlib.Core.Path.{◌≡◌}
use Prim.Native.Nat.{◌≤◌, ◌-◌}
use lib.ListN.{length}
use Rattle.dense.specs.Triangular.{lower_inverse_to}
use Rattle.dense.proofs.triangular.lower_inverse.Given as goal

abbrev pub invariant-loop-i : goal.invariant-loop-i
invariant-loop-i l = (l.i ≤ l.n) × (length l.inv ≡ length l.initial.inv) × (l.inv ≡ lower_inverse_to l.l l.n l.initial.inv l.i)

abbrev pub decreases-loop-i : goal.decreases-loop-i
decreases-loop-i l = l.n - l.i
