-- `whitening::sums::normal` meets its contract. The invariant: the sums hold the first i rows. The measure is what is left of `count`. Assumes
-- nothing.
use mathlib.Core.Path.{◌≡◌}
use Prim.Native.Nat.{◌≤◌, ◌-◌}
use Rattle.whitening.specs.Whitened.{rows}
use Rattle.whitening.specs.Normal.{normal_to}
use Rattle.whitening.proofs.sums.normal.Given as goal

abbrev pub invariant-loop-i : goal.invariant-loop-i
invariant-loop-i l = (l.i ≤ l.count) × (record { information = l.information; gradient = l.gradient; cost = l.cost } ≡ normal_to (rows l.count l.r l.a l.b l.c l.d) l.i)

abbrev pub decreases-loop-i : goal.decreases-loop-i
decreases-loop-i l = l.count - l.i
