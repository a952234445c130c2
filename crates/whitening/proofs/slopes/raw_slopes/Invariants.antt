-- `whitening::slopes::raw_slopes` meets its contract. The invariant: each array is filled below i. The range of a turn is the one lent. The
-- measure is what is left of k. Assumes nothing.
use mathlib.Core.Path.{◌≡◌}
use Prim.Native.Nat.{◌≤◌, ◌-◌}
use lib.Ieee.{neg}
use Rattle.binary64.specs.Steps.{one}
use Rattle.whitening.specs.Whitened.{slope_at, fill_to}
use Rattle.whitening.proofs.slopes.raw_slopes.Given as goal

abbrev pub invariant-loop-i : goal.invariant-loop-i
invariant-loop-i l = (l.i ≤ l.k) × (l.a ≡ fill_to l.initial.a (slope_at l.sites l.p 0) l.i) × (l.b ≡ fill_to l.initial.b (slope_at l.sites l.p 1) l.i)
    × (l.c ≡ fill_to l.initial.c (slope_at l.sites l.p 2) l.i) × (l.d ≡ fill_to l.initial.d (λ i. neg one) l.i)

abbrev pub decreases-loop-i : goal.decreases-loop-i
decreases-loop-i l = l.k - l.i
