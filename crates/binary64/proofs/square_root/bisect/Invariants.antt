-- `binary64::square_root::bisect` meets its contract. The invariant of its loop: the least r with m ≤ (r * r + r) / 2 ^ 52 lies above `low` and at or
-- below `high`. Assumes nothing.
use Prim.Native.Nat.{◌+◌, ◌-◌, ◌*◌, ◌/◌, ◌^◌, ◌≤◌, ◌<◌}
use Rattle.binary64.proofs.square_root.bisect.Given as goal

abbrev pub invariant-loop-high : goal.invariant-loop-high
invariant-loop-high l = (l.low < l.high) × (l.high ≤ 2 ^ 53) × (l.m ≤ (l.high * l.high + l.high) / 2 ^ 52) × ((l.low * l.low + l.low) / 2 ^ 52 < l.m)

abbrev pub decreases-loop-high : goal.decreases-loop-high
decreases-loop-high l = l.high - l.low
