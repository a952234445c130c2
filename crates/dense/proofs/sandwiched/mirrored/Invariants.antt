-- `dense::sandwiched::mirrored` meets its contract. The invariant: m holds the rows below i and their mirrors, and keeps its
-- length. The measure is what is left of n. Assumes nothing.
use mathlib.Core.Path.{◌≡◌}
use Prim.Native.Nat.{◌≤◌, ◌-◌}
use lib.ListN.{length}
use Rattle.dense.specs.Mirrored.{mirrored_to}
use Rattle.dense.specs.Sandwich.{product}
use Rattle.dense.proofs.sandwiched.mirrored.Given as goal

abbrev pub invariant-loop-i : goal.invariant-loop-i
invariant-loop-i l = (l.i ≤ l.n) × (length l.m ≡ length l.initial.m) × (l.m ≡ mirrored_to (product l.a l.b l.n) l.n l.initial.m l.i)

abbrev pub decreases-loop-i : goal.decreases-loop-i
decreases-loop-i l = l.n - l.i
