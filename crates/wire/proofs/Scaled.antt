-- `in_units` by the fields of a value's bits, where the value lies below 2 ^ 15 and a unit below 2 ^ 24. Assumes nothing.
use mathlib.Core.Path.{◌≡◌, refl, sym, ap, ◌∙◌}
use mathlib.Core.Bool.{Bool}
use Prim.Native.Nat.{ℕ, zero, suc, ◌+◌, ◌-◌, ◌*◌, ◌/◌, ◌^◌, ◌≤◌, ◌<◌}
use native.Mathlib.Nat.{le_of_lt, lt_of_lt_of_le, lt_of_le_of_lt, mul_comm, mul_left_comm, mul-le-mul_left, mul-pos, pow-succ'}
use native.Mathlib.Nat.{div-eq_of_lt, div-div-eq-div-mul, add-div_right}
use native.Mathlib.Omega.{arith}
use lib.Pow.{pow-add, pow_pos, pow_mono, shl_lt, shr-shr}
use lib.Ieee.{binary64, of_fields}
use lib.Ieee.Nearest.{div_same}
use Rattle.binary64.proofs.Decode.{fields-low, fields-mid}
use Rattle.wire.specs.Nearest.{signed, half_up}
use Rattle.wire.specs.Wire.{in_units}
use Rattle.wire.proofs.Meaning.{by_value}

-- a product of two bounded numbers
pub product : (m unit i : ℕ) → m < 2 ^ i → unit < 2 ^ 24 → m * unit < 2 ^ (i + 24)
product m unit i h u = lt_of_le_of_lt (mul-le-mul_left m (le_of_lt u)) (shl_lt i 24 h)

-- ---- below a half of a unit
under : (a L H : ℕ) → 2 * H ≡ L → a < H → 2 * a + L < 2 * L
under a L H e h = omega arith

none : (a unit : ℕ) → a < 2 ^ 1049 → unit < 2 ^ 24 → half_up (a * unit) (2 ^ 1074) ≡ 0
none a unit h u = div-eq_of_lt (under (a * unit) (2 ^ 1074) (2 ^ 1073) refl (product a unit 1049 h u))

pub small : (unit x t : ℕ) → unit < 2 ^ 24 → x < 998 → t < 2 ^ 52 → (s : Bool) → in_units unit (of_fields binary64 s x t) ≡ signed s 0
small unit zero t u l h s =
    by_value unit (of_fields binary64 s 0 t) s t (2 ^ 1074) (pow_pos 1074) (fields-low s t)
    ∙ ap (signed s) (none t unit (lt_of_lt_of_le h (pow_mono {i = 52} {j = 1049} (omega arith))) u)
small unit (suc x) t u l h s =
    let a = (2 ^ 52 + t) * 2 ^ x in
    by_value unit (of_fields binary64 s (suc x) t) s a (2 ^ 1074) (pow_pos 1074) (fields-mid s x t (omega arith))
    ∙ ap (signed s) (none a unit (lt_of_lt_of_le (shl_lt 53 x (omega arith)) (pow_mono {i = 53 + x} {j = 1049} (omega arith))) u)

-- ---- with k = 1074 - e and p = m * unit: 2 ^ 1074 is K * 2 ^ e, and the value in units is p / (2 * K)
same : (p m' m X K L unit : ℕ) → p ≡ m * unit → m' ≡ m → L ≡ 2 * (K * X) → (2 * (m' * X * unit) + L) * (2 * K) ≡ (p + K) * (2 * L)
same p m' m X K L unit a b c = rw (a, b, c) (omega arith)

up-half : (p K : ℕ) → 0 < K → (p + K) / (2 * K) ≡ (p / K + 1) / 2
up-half p K z = ap (λ (y : ℕ). (p + K) / y) (mul_comm 2 K) ∙ sym (div-div-eq-div-mul (p + K) K 2) ∙ ap (λ (y : ℕ). y / 2) (add-div_right p z)

-- as the code has it: the product, shifted by 32 and by the rest of k
pub large : (unit x t p : ℕ) → 998 ≤ x → x < 1038 → p ≡ (t + 2 ^ 52) * unit → (s : Bool)
    → in_units unit (of_fields binary64 s x t) ≡ signed s ((p / 2 ^ 32 / 2 ^ (1042 - x) + 1) / 2)
large unit zero t p l h e s = absurd (omega arith)
large unit (suc x) t p l h e s =
    let k = 1074 - suc x in
    let K = 2 ^ k in
    let z : 0 < K = pow_pos k in
    by_value unit (of_fields binary64 s (suc x) t) s ((2 ^ 52 + t) * 2 ^ x) (2 ^ 1074) (pow_pos 1074) (fields-mid s x t (omega arith))
    ∙ ap (signed s)
    (div_same (2 * ((2 ^ 52 + t) * 2 ^ x * unit) + 2 ^ 1074) (2 * 2 ^ 1074) (p + K) (2 * K) (pow_pos 1075) (mul-pos (omega arith) z)
    (same p (2 ^ 52 + t) (t + 2 ^ 52) (2 ^ x) K (2 ^ 1074) unit e (omega arith) (whole k (omega arith)))
    ∙ up-half p K z
    ∙ ap (λ (y : ℕ). (y + 1) / 2)
    (sym (shr-shr p 32 (1042 - suc x) ∙ ap (λ (y : ℕ). p / 2 ^ y) (rest x h))))
  where
    rest : (x : ℕ) → suc x < 1038 → 32 + (1042 - suc x) ≡ 1074 - suc x
    rest x h = omega arith

    whole : (k : ℕ) → k + suc x ≡ 1074 → 2 ^ 1074 ≡ 2 * (2 ^ k * 2 ^ x)
    whole k e = ap (λ (y : ℕ). 2 ^ y) (sym e) ∙ pow-add 2 k (suc x) ∙ ap (λ (y : ℕ). 2 ^ k * y) (pow-succ' 2 x) ∙ mul_left_comm (2 ^ k) 2 (2 ^ x)
