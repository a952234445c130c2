-- `whitening::slopes::forward4` meets its contract. The invariant: each array is solved in its rows below i, and the others hold what they brought
-- (`forward-row`). The measure is what is left of n. Assumes nothing.
use mathlib.Core.Path.{◌≡◌}
use Prim.Native.Nat.{◌≤◌, ◌-◌}
use Rattle.dense.specs.Solve.{forward_to}
use Rattle.whitening.proofs.slopes.forward4.Given as goal

abbrev pub invariant-loop-i : goal.invariant-loop-i
invariant-loop-i l = (l.i ≤ l.n) × (l.a ≡ forward_to l.l l.n l.initial.a l.i) × (l.b ≡ forward_to l.l l.n l.initial.b l.i) × (l.c ≡ forward_to l.l l.n l.initial.c l.i)
    × (l.d ≡ forward_to l.l l.n l.initial.d l.i)

abbrev pub decreases-loop-i : goal.decreases-loop-i
decreases-loop-i l = l.n - l.i
