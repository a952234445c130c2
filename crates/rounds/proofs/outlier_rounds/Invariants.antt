-- `rounds::outlier_rounds` meets its contract. The invariant: from the state, the rounds that are left give the answer (`Left`), whichever are kept.
-- Assumes nothing.
use Rattle.std.proofs.Common.{◌-◌, ◌^◌, ◌<◌, ◌≤◌, ℤ}
use Rattle.best.specs.Held.{receptions}
use Rattle.rounds.proofs.Runs.{Left}
use Rattle.rounds.proofs.outlier_rounds.Given as goal

abbrev pub invariant-loop-k : goal.invariant-loop-k
invariant-loop-k v = (v.k ≤ v.cap) × (v.state.included < 2 ^ v.n)
    × ((ref : ℤ) (l : v.n ≤ 32) → Left (receptions v.site v.z v.noise v.clock v.n v.altitude) v.kept ref l v.cap (v.cap - v.k) v.state)

abbrev pub decreases-loop-k : goal.decreases-loop-k
decreases-loop-k l = l.cap - l.k
