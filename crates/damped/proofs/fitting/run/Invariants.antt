-- `damped::fitting::run` meets its contract. The invariant: what is left of the run from this state gives what the whole run gives, the place is the
-- state's, and the arrays have their room. Each turn and each end is one of the run (`turn`, `ended`). Assumes nothing.
use mathlib.Core.Path.{◌≡◌}
use Prim.Native.Nat.{◌-◌}
use Rattle.whitening.specs.Held.{Scratch, row_place, chosen}
use Rattle.damped.specs.Damped.{run}
use Rattle.damped.proofs.fitting.run.Given as goal

abbrev pub invariant-loop-n : goal.invariant-loop-n
invariant-loop-n l =
    let P = chosen l.k l.sites l.z l.l l.altitude in
    (run P (50 - l.n) l.state ≡ run P 50 l.initial.state) × (l.at ≡ row_place l.altitude l.state.params)
    × Scratch l.r l.squared l.ranges l.a l.b l.c l.d
