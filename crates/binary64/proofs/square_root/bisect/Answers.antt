-- `binary64::square_root::bisect` meets its contract. The invariant of its loop: the least r with m ≤ (r * r + r) / 2 ^ 52 lies above `low` and at or
-- below `high`. Assumes nothing.
use mathlib.Core.Path.{◌≡◌, ap}
use Prim.Native.Nat.{ℕ, ◌+◌, ◌-◌, ◌*◌, ◌/◌, ◌^◌, ◌≤◌, ◌<◌}
use native.Mathlib.Nat.{le-div_iff_mul-le, div-lt_iff_lt-mul}
use native.Mathlib.Omega.{arith}
use lib.Pow.{pow_pos}
use Rattle.binary64.specs.Held.{Nearest}
use Rattle.binary64.proofs.square_root.bisect.Goals as goal

nearest : (low high m : ℕ) → low < high → high - low ≤ 1 → m ≤ (high * high + high) / 2 ^ 52 → (low * low + low) / 2 ^ 52 < m
    → Nearest (m * 2 ^ 52) high
nearest low high m b d e f =
    let x : low * low + low < m * 2 ^ 52 = (div-lt_iff_lt-mul (pow_pos 52)).0 f in
    let one : low + 1 ≡ high = omega arith in
    let sq : (low + 1) * (low + 1) ≡ high * high = ap (λ (y : ℕ). y * y) one in
    (omega arith, (le-div_iff_mul-le (pow_pos 52)).0 e)

pub returns : goal.returns
returns c = let l = c.loop-high in nearest l.low l.high _ l.invariant.0 c.loop-high-test.false l.invariant.2 l.invariant.3
