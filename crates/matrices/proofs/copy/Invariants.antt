-- `matrices::copy` meets its contract. The invariant: the first k entries are q's, and out keeps its length. The measure is what
-- is left of q. Assumes nothing.
use mathlib.Core.Path.{◌≡◌}
use Prim.Native.Nat.{◌≤◌, ◌-◌}
use lib.ListN.{length, take}
use Rattle.matrices.proofs.copy.Given as goal

abbrev pub invariant-loop-k : goal.invariant-loop-k
invariant-loop-k l = (l.k ≤ length l.q) × (length l.out ≡ length l.initial.out) × (take l.k l.out ≡ take l.k l.q)

abbrev pub decreases-loop-k : goal.decreases-loop-k
decreases-loop-k l = length l.q - l.k
