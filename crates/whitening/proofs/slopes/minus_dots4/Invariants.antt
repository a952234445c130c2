-- `whitening::slopes::minus_dots4` meets its contract. The invariant: each sum has its first k products taken off. The measure is what is left of i.
-- Assumes nothing.
use mathlib.Core.Path.{◌≡◌}
use Prim.Native.Nat.{◌≤◌, ◌-◌}
use Rattle.dense.specs.Entries.{nth, at, minus_dots}
use Rattle.whitening.proofs.slopes.minus_dots4.Given as goal

abbrev pub invariant-loop-k : goal.invariant-loop-k
invariant-loop-k l = (l.k ≤ l.i) × (l.v0 ≡ minus_dots (at l.l l.n l.i) (nth l.a) l.k l.initial.v0)
    × (l.v1 ≡ minus_dots (at l.l l.n l.i) (nth l.b) l.k l.initial.v1) × (l.v2 ≡ minus_dots (at l.l l.n l.i) (nth l.c) l.k l.initial.v2) × (l.v3 ≡ minus_dots (at l.l l.n l.i) (nth l.d) l.k l.initial.v3)

abbrev pub decreases-loop-k : goal.decreases-loop-k
decreases-loop-k l = l.i - l.k
