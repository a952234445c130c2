-- `whitening::rows::squares` meets its contract. The invariant: the sum holds the squares below i. The measure is what is left of k. Assumes nothing.
use mathlib.Core.Path.{◌≡◌}
use Prim.Native.Nat.{◌≤◌, ◌-◌}
use Rattle.whitening.specs.Held.{cost_to}
use Rattle.whitening.proofs.rows.squares.Given as goal

abbrev pub invariant-loop-i : goal.invariant-loop-i
invariant-loop-i l = (l.i ≤ l.k) × (l.sum ≡ cost_to l.r l.i)

abbrev pub decreases-loop-i : goal.decreases-loop-i
decreases-loop-i l = l.k - l.i
