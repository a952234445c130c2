-- `binary64::square_root::each` meets its contract. The invariant: the array has the roots below i. The measure is what is left of k. Assumes
-- nothing.
use mathlib.Core.Path.{◌≡◌}
use Prim.Native.Nat.{◌-◌, ◌≤◌}
use Rattle.binary64.specs.Held.{roots_to}
use Rattle.binary64.proofs.square_root.each.Given as goal

abbrev pub invariant-loop-i : goal.invariant-loop-i
invariant-loop-i l = (l.i ≤ l.k) × (l.out ≡ roots_to l.d l.initial.out l.i)

abbrev pub decreases-loop-i : goal.decreases-loop-i
decreases-loop-i l = l.k - l.i
