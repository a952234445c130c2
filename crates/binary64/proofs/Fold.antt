-- The square of an r up to 2 ^ 53 by its two digits in base 2 ^ 26. Assumes nothing.
use mathlib.Core.Path.{◌≡◌, sym, ap, ◌∙◌}
use Prim.Native.Nat.{ℕ, ◌+◌, ◌*◌, ◌/◌, ◌^◌, ◌≤◌}
use native.Mathlib.Nat.{mul-le-mul, add_assoc, mul-add-div_right}
use native.Mathlib.Omega.{arith}
use lib.Pow.{pow_pos, split, shr-shr}
use lib.Bits.{bit_and, and_mask}

-- the two digits are in range, and so are their products
pub record Small (a b : ℕ) : Type 0 where
  pub a-le : a ≤ 2 ^ 27
  pub b-le : b ≤ 2 ^ 26
  pub aa : a * a ≤ 2 ^ 27 * 2 ^ 27
  pub ab : 2 * a * b ≤ 2 * 2 ^ 27 * 2 ^ 26
  pub bb : b * b ≤ 2 ^ 26 * 2 ^ 26

pub small : (r : ℕ) → r ≤ 2 ^ 53 → Small (r / 2 ^ 26) (bit_and r 0x3ff_ffff)
small r h =
    let x : r / 2 ^ 26 ≤ 2 ^ 27 = omega arith in
    let y : bit_and r 0x3ff_ffff ≤ 2 ^ 26 = rw (and_mask r 26) (omega arith) in
    let z : 2 * (r / 2 ^ 26) ≤ 2 * 2 ^ 27 = omega arith in
    record { a-le = x; b-le = y; aa = mul-le-mul x x; ab = mul-le-mul z y; bb = mul-le-mul y y }

square : (P a b c r : ℕ) → a * P + b ≡ r → r * r + c ≡ (a * a * P + 2 * a * b) * P + (b * b + c)
square P a b c r e = rw (← e) (omega arith)

pub fold_law : (r c : ℕ) → let a = r / 2 ^ 26 in let b = bit_and r 0x3ff_ffff in
    a * a + (2 * a * b + (b * b + c) / 2 ^ 26) / 2 ^ 26 ≡ (r * r + c) / 2 ^ 52
fold_law r c =
    let P = 2 ^ 26 in
    let a = r / P in
    let b = bit_and r 0x3ff_ffff in
    let e : a * P + b ≡ r = ap (λ (x : ℕ). a * P + x) (and_mask r 26) ∙ split r 26 in
    sym (ap (λ (x : ℕ). x / 2 ^ 52) (square P a b c r e)
    ∙ sym (shr-shr ((a * a * P + 2 * a * b) * P + (b * b + c)) 26 26)
    ∙ ap (λ (x : ℕ). x / P) (mul-add-div_right (pow_pos 26) (a * a * P + 2 * a * b) (b * b + c) ∙ add_assoc (a * a * P) (2 * a * b) ((b * b + c) / P))
    ∙ mul-add-div_right (pow_pos 26) (a * a) (2 * a * b + (b * b + c) / P))
