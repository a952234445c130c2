-- `floor_root` is the floored root. Assumes nothing.
use mathlib.Core.Path.{subst}
use Prim.Native.Nat.{ℕ, zero, suc, ◌+◌, ◌*◌, ◌/◌, ◌^◌, ◌≤◌, ◌<◌}
use native.Mathlib.Nat.{pow-succ'}
use native.Mathlib.Omega.{arith}
use mathlib.Core.Bool.{Bool, true, false, not, cond}
use lib.Dec.{T, leb, leb→le, nleb→lt}
use lib.Ieee.{size}
use lib.Ieee.Digits.{size-lt}
use Rattle.binary64.specs.Root.{digits, floor_root}
use Rattle.binary64.proofs.Squares.{Floored}

digit-law : (n r : ℕ) → Floored (n / 4) r → Floored n (cond (leb ((2 * r + 1) * (2 * r + 1)) n) (2 * r + 1) (2 * r))
digit-law n r f = go (leb ((2 * r + 1) * (2 * r + 1)) n) (leb→le ((2 * r + 1) * (2 * r + 1)) n) (nleb→lt ((2 * r + 1) * (2 * r + 1)) n)
  where
    go : (b : Bool) → (T b → (2 * r + 1) * (2 * r + 1) ≤ n) → (T (not b) → n < (2 * r + 1) * (2 * r + 1)) → Floored n (cond b (2 * r + 1) (2 * r))
    go true h k =
        let l : (2 * r + 1) * (2 * r + 1) ≤ n = h tt in
        (l, omega arith)
    go false h k = (omega arith, k tt)

half : (n p : ℕ) → n < 2 * p → n / 4 < p
half n p h = omega arith

floor-law : (d n : ℕ) → n < 2 ^ d → Floored n (digits d n)
unfolding digits
floor-law zero n h = (omega arith, omega arith)
floor-law (suc d) n h = digit-law n (digits d (n / 4)) (floor-law d (n / 4) (half n (2 ^ d) (subst (λ (x : ℕ). n < x) (pow-succ' 2 d) h)))

pub floored : (n : ℕ) → Floored n (floor_root n)
unfolding floor_root
floored n = floor-law (size n) n (size-lt n)
