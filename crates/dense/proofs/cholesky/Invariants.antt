-- `dense::cholesky` meets its contract. The invariant: l holds the factor's columns below j, none of them refused, and keeps its length. What a pivot
-- does to it is `next` and `stopped`. The measure is what is left of n. Assumes nothing.
use mathlib.Core.Path.{◌≡◌}
use Prim.Native.Nat.{◌≤◌, ◌-◌}
use lib.ListN.{length}
use Rattle.dense.specs.Factor.{found, cholesky_to}
use Rattle.dense.proofs.cholesky.Given as goal

abbrev pub invariant-loop-j : goal.invariant-loop-j
invariant-loop-j l = (l.j ≤ l.n) × (length l.l ≡ length l.initial.l) × (cholesky_to l.a-2 l.n l.initial.l l.j ≡ found l.l)

abbrev pub decreases-loop-j : goal.decreases-loop-j
decreases-loop-j l = l.n - l.j
