-- `binary64::rounding::whole` meets its contract: below a half it is 0 (`small-half`), and from there up a half is 2 ^ k of the units that m counts
-- (`mid-half`). Assumes nothing.
use mathlib.Core.Path.{◌≡◌, sym, ap, ◌∙◌}
use Prim.Native.Nat.{ℕ, ◌+◌, ◌-◌, ◌*◌, ◌/◌, ◌%◌, ◌^◌, ◌≤◌, ◌<◌}
use native.Mathlib.Nat.{le_trans, one-mul, mod-lt, mod-eq_of_lt, lt_of_le_of_lt, mul-le-mul_left, div-mul-le_self}
use native.Mathlib.Omega.{arith}
use mathlib.Core.Bool.{Bool}
use lib.Pow.{pow_pos, pow_mono}
use lib.Bits.{bit_and, and_mask, mask_lt}
use lib.Dec.{lit<}
use lib.Ieee.{binary64, of_fields, round}
use borrow.Author.Rules.{rules}
use Rattle.binary64.specs.Rounding.{half_away}
use Rattle.binary64.proofs.HalfLaw.{small-half, mid-half}
use Rattle.binary64.proofs.rounding.whole.Goals as goal

-- 1 << k
one_shl : (k : ℕ) → k ≤ 52 → ((1 * 2 ^ k) % 2 ^ 64 ≡ 2 ^ k) × (2 ^ k ≤ 2 ^ 52)
one_shl k h = let l : 2 ^ k ≤ 2 ^ 52 = pow_mono h in (ap (λ (x : ℕ). x % 2 ^ 64) (one-mul (2 ^ k)) ∙ mod-eq_of_lt (lt_of_le_of_lt l (lit< tt)), l)

-- a quotient by 2 or more is at most the half
at_most : (n d : ℕ) → 2 ≤ d → n / d * 2 ≤ n
at_most n d h = le_trans (mul-le-mul_left (n / d) h) (div-mul-le_self n d)

result : (r : ℕ) → 1022 ≤ r / 2 ^ 52 → r < 0x4330_0000_0000_0000
    → let k = 1074 - r / 2 ^ 52 in
    let q = (bit_and r 0xf_ffff_ffff_ffff + 2 ^ 52 + (1 * 2 ^ k) % 2 ^ 64) / 2 ^ (k + 1) in
    (q ≤ 2 ^ 53) × ((s : Bool) → half_away (of_fields binary64 s (r / 2 ^ 52) (r % 2 ^ 52)) ≡ round binary64 s q 1)
result r lo hi =
    let x = r / 2 ^ 52 in
    let k = 1074 - x in
    let k-le : k ≤ 52 = omega arith in
    let e : k + x ≡ 1074 = omega arith in
    let o = one_shl k k-le in
    let n = bit_and r 0xf_ffff_ffff_ffff + 2 ^ 52 + (1 * 2 ^ k) % 2 ^ 64 in
    let same : r % 2 ^ 52 + 2 ^ 52 + 2 ^ k ≡ n = ap (λ (y : ℕ). y + 2 ^ 52 + 2 ^ k) (sym (and_mask r 52))
    ∙ ap (λ (y : ℕ). bit_and r 0xf_ffff_ffff_ffff + 2 ^ 52 + y) (sym o.0) in
    let two : 2 ≤ 2 ^ (k + 1) = pow_mono {i = 1} {j = k + 1} (omega arith) in (
      omega (arith, at_most n (2 ^ (k + 1)) two, mask_lt r 52),
      λ s. mid-half s x (r % 2 ^ 52) k lo e
          ∙ ap (λ (y : ℕ). round binary64 s (y / 2 ^ (k + 1)) 1) same,
    )

pub returns-then-e-lt1022 : goal.returns-then-e-lt1022
returns-then-e-lt1022 c = (search rules, λ s. small-half s _ _ c.if-e-lt1022.true (mod-lt _ (pow_pos 52)))

pub overflow_add-m : goal.overflow_add-m
overflow_add-m c = omega (arith, mask_lt c.args.rest 52)

pub overflow_add-result : goal.overflow_add-result
overflow_add-result c =
    let x = c.args.rest / 2 ^ 52 in
    let k-le : 1074 - x ≤ 52 = omega arith in
    let o = one_shl (1074 - x) k-le in
    omega (arith, mask_lt c.args.rest 52)

pub returns : goal.returns
returns c = result c.args.rest c.if-e-lt1022.false c.requires
