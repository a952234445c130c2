-- `half_away` by a value's size in units of the format's smallest value, and by its bits' fields. Assumes nothing.
use mathlib.Core.Path.{◌≡◌, refl, sym, ap, ◌∙◌, subst}
use mathlib.Core.Logic.{◌⊎◌, inl, inr}
use Prim.Native.Nat.{ℕ, zero, suc, ◌+◌, ◌-◌, ◌*◌, ◌/◌, ◌^◌, ◌≤◌, ◌<◌}
use native.Mathlib.Nat.{lt_of_lt_of_le, zero-lt-suc, mul-one, mul_comm, mul_left_comm, mul_right_comm, mul-pos, eq_of_mul-eq-mul_right}
use native.Mathlib.Nat.{eq-or-lt_of_le, pow-succ', div-eq_of_lt}
use native.Mathlib.Omega.{arith}
use mathlib.Core.Bool.{Bool, true, false, cond}
use lib.Dec.{T, ltb, eqb, lit≤}
use lib.Pow.{pow-add, pow_pos, pow_mono, shl_lt}
use lib.Ieee.{Float, nan, inf, fin, binary64, up, down, odd, units, round, neg, fits, of_fields}
use lib.Arith.{digits_div}
use lib.Ieee.Fits.{down_pos, round-fits, round_is}
use lib.Ieee.Exact.{HasValue, round_exact}
use lib.Ieee.Nearest.{div_same}
use lib.Ieee.Back.{whole_unique}
use Rattle.binary64.specs.Rounding.{half_away}
use Rattle.binary64.proofs.Decode.{fields-low, fields-mid}
use Rattle.binary64.proofs.Nearer.{coarse}

-- ---- by the size a in units
cross : (u d a L : ℕ) → u * L ≡ a * d → (2 * u + d) * (2 * L) ≡ (2 * a + L) * (2 * d)
cross u d a L h = omega arith

pub half-value : (v : Float) (s : Bool) (a : ℕ) → HasValue v s a (2 ^ 1074) → half_away v ≡ round binary64 s ((2 * a + 2 ^ 1074) / (2 * 2 ^ 1074)) 1
unfolding half_away
half-value nan s a h = absurd h
half-value (inf t) s a h = absurd h
half-value (fin t m e) s a h =
    ap (λ (b : Bool). round binary64 b ((2 * (m * up e) + down e) / (2 * down e)) 1) h.0
    ∙ ap (λ (q : ℕ). round binary64 s q 1)
    (div_same (2 * (m * up e) + down e) (2 * down e) (2 * a + 2 ^ 1074) (2 * 2 ^ 1074) (mul-pos (zero-lt-suc 1) (down_pos e)) (pow_pos 1075)
    (cross (m * up e) (down e) a (2 ^ 1074) h.1))

-- ---- below a half
below-half : (a L : ℕ) → 2 * a < L → (2 * a + L) / (2 * L) ≡ 0
below-half a L h = div-eq_of_lt (omega arith)

pub small-half : (s : Bool) (x t : ℕ) → x < 1022 → t < 2 ^ 52 → half_away (of_fields binary64 s x t) ≡ round binary64 s 0 1
small-half s zero t l h = half-value (of_fields binary64 s 0 t) s t (fields-low s t)
    ∙ ap (λ (q : ℕ). round binary64 s q 1) (below-half t (2 ^ 1074)
    (lt_of_lt_of_le {m = 2 ^ 53} (omega arith) (pow_mono {i = 53} {j = 1074} (lit≤ tt))))
small-half s (suc x) t l h =
    half-value (of_fields binary64 s (suc x) t) s ((2 ^ 52 + t) * 2 ^ x) (fields-mid s x t (omega arith))
    ∙ ap (λ (q : ℕ). round binary64 s q 1) (below-half ((2 ^ 52 + t) * 2 ^ x) (2 ^ 1074)
    (double ((2 ^ 52 + t) * 2 ^ x) (2 ^ 1073) (2 ^ 1074) refl
    (lt_of_lt_of_le (shl_lt 53 x (omega arith)) (pow_mono {i = 53 + x} {j = 1073} (omega arith)))))
  where
    double : (a H L : ℕ) → 2 * H ≡ L → a < H → 2 * a < L
    double a H L e h = omega arith

-- ---- from a half up to 2 ^ 52: with x = 1074 - k the size is m * 2 ^ (1073 - k) units, and 2 ^ 1074 is 2 ^ k * 2 ^ (1074 - k)
pub mid-half : (s : Bool) (x t k : ℕ) → 1022 ≤ x → k + x ≡ 1074 → half_away (of_fields binary64 s x t)
    ≡ round binary64 s ((t + 2 ^ 52 + 2 ^ k) / 2 ^ (k + 1)) 1
mid-half s zero t k l e = absurd (omega arith)
mid-half s (suc x) t k l e =
    half-value (of_fields binary64 s (suc x) t) s ((2 ^ 52 + t) * 2 ^ x) (fields-mid s x t (omega arith))
    ∙ ap (λ (q : ℕ). round binary64 s q 1)
    (div_same (2 * ((2 ^ 52 + t) * 2 ^ x) + 2 ^ 1074) (2 * 2 ^ 1074) (t + 2 ^ 52 + 2 ^ k) (2 ^ (k + 1)) (pow_pos 1075) (pow_pos (k + 1))
    (same (2 ^ 52 + t) (t + 2 ^ 52) (2 ^ x) (2 ^ k) (2 ^ 1074) (2 ^ (k + 1)) (flip t) whole (up1 k)))
  where
    flip : (t : ℕ) → 2 ^ 52 + t ≡ t + 2 ^ 52
    flip t = omega arith

    up1 : (k : ℕ) → 2 ^ (k + 1) ≡ 2 * 2 ^ k
    up1 k = pow-add 2 k 1 ∙ mul_comm (2 ^ k) 2

    whole : 2 ^ 1074 ≡ 2 * (2 ^ k * 2 ^ x)
    whole = ap (λ (y : ℕ). 2 ^ y) (sym e) ∙ pow-add 2 k (suc x) ∙ ap (λ (y : ℕ). 2 ^ k * y) (pow-succ' 2 x) ∙ mul_left_comm (2 ^ k) 2 (2 ^ x)

    same : (m m' X K L D : ℕ) → m ≡ m' → L ≡ 2 * (K * X) → D ≡ 2 * K → (2 * (m * X) + L) * D ≡ (m' + K) * (2 * L)
    same m m' X K L D p q r = rw (p, q, r) (omega arith)

-- ---- from 2 ^ 52 on a value is whole
rescale : (v : Float) (s : Bool) (c : ℕ) → HasValue v s (c * 2 ^ 1074) (2 ^ 1074) → HasValue v s c 1
rescale nan s c h = h
rescale (inf t) s c h = h
rescale (fin t m e) s c h = (
  h.0,
  mul-one (m * up e)
      ∙ eq_of_mul-eq-mul_right (2 ^ 1074) (pow_pos 1074) (m * up e) (c * down e) (h.1 ∙ mul_right_comm c (2 ^ 1074) (down e)),
)

large : (s : Bool) (x t : ℕ) → 1075 ≤ suc x → suc x < 2047 → t < 2 ^ 52 → T (fits binary64 (of_fields binary64 s (suc x) t))
    → half_away (of_fields binary64 s (suc x) t) ≡ of_fields binary64 s (suc x) t
large s x t lo hi h f =
    let m = 2 ^ 52 + t in
    let c = m * 2 ^ (x - 1074) in
    let v = of_fields binary64 s (suc x) t in
    let a : m * 2 ^ x ≡ c * 2 ^ 1074 = coarse m x 1074 (omega arith) in
    let hv : HasValue v s (c * 2 ^ 1074) (2 ^ 1074) = subst (λ (y : ℕ). HasValue v s y (2 ^ 1074)) a (fields-mid s x t hi) in
    let small : m < 2 ^ 53 = omega arith in
    let fine : m * 2 ^ x < 2 ^ 2098 = lt_of_lt_of_le (shl_lt 53 x small) (pow_mono {i = 53 + x} {j = 2098} (omega arith)) in
    half-value v s (c * 2 ^ 1074) hv
    ∙ ap (λ (q : ℕ). round binary64 s q 1) (cut c (2 ^ 1074) (pow_pos 1074))
    ∙ whole_unique binary64 (round binary64 s c 1) v s c (round-fits binary64 s c 1) f
    (round_exact binary64 s c 1 m x (zero-lt-suc 0) small fine (sym a ∙ sym (mul-one (m * 2 ^ x))))
    (rescale v s c hv)
  where
    cut : (c L : ℕ) → 0 < L → (2 * (c * L) + L) / (2 * L) ≡ c
    cut c L p = ap (λ (y : ℕ). (y + L) / (2 * L)) (mul_left_comm 2 c L) ∙ digits_div c (omega arith)

top-half : (s : Bool) (t : ℕ) → half_away (of_fields binary64 s 2047 t) ≡ of_fields binary64 s 2047 t
unfolding half_away of_fields
top-half s t = go (eqb t 0)
  where
    go : (b : Bool) → half_away (cond b (inf s) nan) ≡ cond b (inf s) nan
    go true = refl
    go false = refl

pub large-half : (s : Bool) (x t : ℕ) → 1075 ≤ x → x ≤ 2047 → t < 2 ^ 52 → T (fits binary64 (of_fields binary64 s x t))
    → half_away (of_fields binary64 s x t) ≡ of_fields binary64 s x t
large-half s zero t lo hi h f = absurd (omega arith)
large-half s (suc x) t lo hi h f = go (eq-or-lt_of_le hi)
  where
    go : (suc x ≡ 2047) ⊎ (suc x < 2047) → half_away (of_fields binary64 s (suc x) t) ≡ of_fields binary64 s (suc x) t
    go (inl e) = ap (λ (y : ℕ). half_away (of_fields binary64 s y t)) e ∙ top-half s t ∙ ap (λ (y : ℕ). of_fields binary64 s y t) (sym e)
    go (inr l) = large s x t lo l h f

-- ---- the sign
neg-odd : (d q k l : ℕ) → neg (odd d false q k l) ≡ odd d true q k l
unfolding neg odd
neg-odd d zero k l = refl
neg-odd d (suc q) k l = refl

neg-units : (q k : ℕ) → neg (units binary64 false q k) ≡ units binary64 true q k
unfolding units neg
neg-units q k = go (ltb (q * 2 ^ k) (2 ^ 2098))
  where
    go : (b : Bool) → neg (cond b (odd 54 false q k 1074) (inf false)) ≡ cond b (odd 54 true q k 1074) (inf true)
    go true = neg-odd 54 q k 1074
    go false = refl

pub neg-round : (n : ℕ) → neg (round binary64 false n 1) ≡ round binary64 true n 1
neg-round n = ap neg (round_is binary64 false n 1) ∙ neg-units _ _ ∙ sym (round_is binary64 true n 1)
