-- `published` multiplies both of two mirrored entries alike, so that they stay equal to the bit. Assumes nothing.
use mathlib.Core.Path.{refl, ap}
use Prim.Native.Nat.{zero, suc}
use native.Mathlib.Omega.{arith}
use Rattle.limits.specs.Local.{inflated}
use Rattle.limits.specs.Mirrored.{PublishedMirrored}

pub published-mirrored : PublishedMirrored
unfolding inflated
published-mirrored m S zero zero h g = refl
published-mirrored m S zero (suc zero) h g = ap (inflated 0 1) (S 0 1 (omega arith) (omega arith))
published-mirrored m S zero (suc (suc zero)) h g = ap (inflated 0 2) (S 0 2 (omega arith) (omega arith))
published-mirrored m S (suc zero) zero h g = ap (inflated 1 0) (S 1 0 (omega arith) (omega arith))
published-mirrored m S (suc zero) (suc zero) h g = refl
published-mirrored m S (suc zero) (suc (suc zero)) h g = ap (inflated 1 2) (S 1 2 (omega arith) (omega arith))
published-mirrored m S (suc (suc zero)) zero h g = ap (inflated 2 0) (S 2 0 (omega arith) (omega arith))
published-mirrored m S (suc (suc zero)) (suc zero) h g = ap (inflated 2 1) (S 2 1 (omega arith) (omega arith))
published-mirrored m S (suc (suc zero)) (suc (suc zero)) h g = refl
published-mirrored m S zero (suc (suc (suc j))) h g = absurd (omega arith)
published-mirrored m S (suc zero) (suc (suc (suc j))) h g = absurd (omega arith)
published-mirrored m S (suc (suc zero)) (suc (suc (suc j))) h g = absurd (omega arith)
published-mirrored m S (suc (suc (suc i))) j h g = absurd (omega arith)
