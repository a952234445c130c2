-- `dense::dots` meets its contract. The invariant: the sum is that of the first k products. The places are those that the caller
-- shows. The measure is what is left of m. Assumes nothing.
use mathlib.Core.Path.{◌≡◌}
use Prim.Native.Nat.{◌≤◌, ◌+◌, ◌*◌, ◌-◌}
use Rattle.dense.specs.Entries.{nth, dots}
use Rattle.dense.proofs.dots.Given as goal

abbrev pub invariant-loop-k : goal.invariant-loop-k
invariant-loop-k l = (l.k ≤ l.m) × (l.sum ≡ dots (λ j. nth l.a (l.p + j * l.s)) (λ j. nth l.b (l.q + j * l.t)) l.k)

abbrev pub decreases-loop-k : goal.decreases-loop-k
decreases-loop-k l = l.m - l.k
