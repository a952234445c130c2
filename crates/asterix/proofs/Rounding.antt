-- The whole number nearest to a fraction by quotient and remainder, and that every step of it fits a word. Assumes nothing.
use mathlib.Core.Path.{◌≡◌, ap}
use mathlib.Core.Bool.{true}
use Prim.Native.Nat.{ℕ, suc, ◌+◌, ◌*◌, ◌/◌, ◌%◌, ◌^◌, ◌<◌, ◌≤◌}
use native.Mathlib.Nat.{le_trans, le_of_eq, mul-one, mul_left_comm, mul-le-mul, mul-le-mul_left, mul-le-mul_right}
use native.Mathlib.Nat.{mod-lt, div-add-mod', div-lt_iff_lt-mul}
use native.Mathlib.Omega.{arith}
use lib.IntN.{ℤ, pos, negsuc, ◌*ℤ◌}
use Rattle.wire.specs.Nearest.{signed, half_up}
use Rattle.wire.proofs.Distance.{only}

-- ---- the remainder decides
module _ (n d : ℕ) (p : 0 < d) where
  apart : n / d * d + n % d ≡ n
  apart = div-add-mod' n d

  pub down : 2 * (n % d) < d → n / d ≡ half_up n d
  down h = let e = apart in only n d (n / d) p (record { low = omega arith; high = omega arith })

  pub up : d ≤ 2 * (n % d) → n / d + 1 ≡ half_up n d
  up h =
      let e = apart in
      let l : n % d < d = mod-lt n p in
      only n d (n / d + 1) p (record { low = omega arith; high = omega arith })

-- ---- words
pub room : (n t d : ℕ) → n ≤ 2 ^ 31 → 2 * t ≤ d → d < 2 ^ 32 → n * t ≤ 2 ^ 31 * 2 ^ 31
room n t d h l s = let a : t ≤ 2 ^ 31 = omega arith in mul-le-mul h a

pub halved : (n t d : ℕ) → n ≤ 2 ^ 31 → 2 * t ≤ d → 0 < d → half_up (n * t) d < 2 ^ 31
halved n t d h l p =
    let a : 2 * (n * t) ≤ n * d = le_trans (le_of_eq (mul_left_comm 2 n t)) (mul-le-mul_left n l) in
    let b : n * d ≤ 2 ^ 31 * d = mul d h in
    (div-lt_iff_lt-mul {k = 2 * d} {x = 2 * (n * t) + d} {y = 2 ^ 31} (omega arith)).1 (omega arith)
  where
    mul : {n k : ℕ} (d : ℕ) → n ≤ k → n * d ≤ k * d
    mul d h = mul-le-mul_right d h

-- ---- one multiple of a whole number is itself
pub once : (z : ℤ) → z *ℤ pos 1 ≡ z
once (pos n) = ap pos (mul-one n)
once (negsuc n) = ap (signed true) (mul-one (suc n))
