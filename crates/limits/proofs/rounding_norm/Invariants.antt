-- `limits::rounding_norm` meets its contract: after k rows the sum is the running sum of the definition. Assumes nothing.
use Prim.Native.Nat.{◌≤◌, ◌-◌}
use mathlib.Core.Path.{◌≡◌}
use Rattle.dense.specs.Entries.{dots}
use Rattle.limits.specs.Limits.{moved_at}
use Rattle.limits.proofs.rounding_norm.Given as goal

abbrev pub invariant-loop-k : goal.invariant-loop-k
invariant-loop-k l = (l.k ≤ l.rows) × (l.sum ≡ dots (moved_at l.a l.b l.c l.d) (moved_at l.a l.b l.c l.d) l.k)

abbrev pub decreases-loop-k : goal.decreases-loop-k
decreases-loop-k l = l.rows - l.k
