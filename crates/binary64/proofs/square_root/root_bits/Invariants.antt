-- `binary64::square_root::root_bits` meets its contract: a normal value is m * 2 ^ p units (`normal`), and a subnormal one is moved up until it has
-- 53 binary digits (`subnormal`). The loop's invariant: m is `bits` with k zeros after it. Assumes nothing.
use mathlib.Core.Path.{◌≡◌}
use Prim.Native.Nat.{◌-◌, ◌*◌, ◌^◌, ◌<◌}
use Rattle.binary64.proofs.square_root.root_bits.Given as goal

abbrev pub invariant-loop-m : goal.invariant-loop-m
invariant-loop-m l = (0 < l.m) × (l.m < 2 ^ 53) × (l.k < 53) × (l.m ≡ l.bits * 2 ^ l.k)

abbrev pub decreases-loop-m : goal.decreases-loop-m
decreases-loop-m l = 2 ^ 52 - l.m
