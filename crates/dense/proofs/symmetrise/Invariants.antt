-- `dense::symmetrise` meets its contract. The invariant: the rows below `row` are symmetrised, and m keeps its length. The measure is what is left of
-- n. Assumes nothing.
use mathlib.Core.Path.{◌≡◌}
use Prim.Native.Nat.{◌≤◌, ◌-◌}
use lib.ListN.{length}
use Rattle.dense.specs.Inverse.{symmetrise_to}
use Rattle.dense.proofs.symmetrise.Given as goal

abbrev pub invariant-loop-row : goal.invariant-loop-row
invariant-loop-row l = (l.row ≤ l.n) × (length l.m ≡ length l.initial.m) × (l.m ≡ symmetrise_to l.n l.initial.m l.row)

abbrev pub decreases-loop-row : goal.decreases-loop-row
decreases-loop-row l = l.n - l.row
