-- `sets::members` meets its contract. The invariant: the members below i are listed and k counts them, so that k is at most i (`count-le`), which is
-- below 32. Assumes nothing.
use mathlib.Core.Path.{◌≡◌}
use Prim.Native.Nat.{◌-◌, ◌≤◌}
use Rattle.sets.specs.Sets.{count, members_to}
use Rattle.sets.specs.Mask.{has}
use Rattle.sets.proofs.members.Given as goal

abbrev pub invariant-loop-i : goal.invariant-loop-i
invariant-loop-i l = (l.i ≤ l.n) × (l.k ≡ count (has l.mask) l.i) × (l.index ≡ members_to (has l.mask) l.initial.index l.i)

abbrev pub decreases-loop-i : goal.decreases-loop-i
decreases-loop-i l = l.n - l.i
