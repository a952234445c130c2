-- A finite binary64 by its size in units: m * 2 ^ j with an m of at most 53 binary digits, and below 2 ^ 2098. The size tells two values that are not
-- negative apart. Assumes nothing.
use mathlib.Core.Path.{◌≡◌, sym, ap, ◌∙◌, subst}
use Prim.Native.Nat.{ℕ, zero, suc, ◌+◌, ◌-◌, ◌*◌, ◌%◌, ◌^◌, ◌≤◌, ◌<◌}
use native.Mathlib.Nat.{le_trans, le_of_eq, le_of_suc-le-suc, lt_of_le_of_lt, lt_of_not-le, not-le_of_lt, zero-mul, one-mul, mul-one, mul_assoc}
use native.Mathlib.Nat.{mul-pos, mul_right_comm, mul-le-mul_right, mul-lt-mul_of_pos_right, lt_of_mul-lt-mul_right, eq_of_mul-eq-mul_right}
use native.Mathlib.Omega.{arith}
use mathlib.Core.Bool.{Bool, false, ◌&&◌}
use lib.IntN.{ℤ, pos, negsuc}
use lib.Dec.{ltb, leb, eqb, ltb→lt, leb→le, eqb→eq}
use lib.Pow.{pow-add, pow_pos, pow-lt}
use lib.Ieee.{Float, nan, inf, fin, binary64, up, down, fits, of_bits}
use lib.Ieee.Fits.{up_pos, down_pos, and_l, and_r}
use lib.Ieee.Bits.{of_bits-to_bits}
use Rattle.binary64.specs.Meaning.{IsBinary64, HasUnits}
use Rattle.binary64.proofs.BitsLaw.{to_bits-value}

-- ---- what fitting says of m and e
record Within (m : ℕ) (e : ℤ) : Type 0 where
  digits : m < 2 ^ 53
  deep : down e ≤ 2 ^ 1074
  under : m * up e < 2 ^ 1024 * down e

fits-says : (s : Bool) (m : ℕ) (e : ℤ) → IsBinary64 (fin s m e) → Within m e
unfolding fits
fits-says s zero e t = record {
  digits = pow_pos 53;
  deep = le_trans (le_of_eq (sym (one-mul (down e))))
      (le_trans (mul-le-mul_right (down e) (up_pos e)) (le_trans (le_of_eq (eqb→eq (up e * down e) 1 t)) (pow_pos 1074)));
  under = lt_of_le_of_lt (le_of_eq (zero-mul (up e))) (mul-pos (pow_pos 1024) (down_pos e));
}
fits-says s (suc m) e t =
    let a : Bool = eqb (suc m % 2) 1 in
    let b : Bool = ltb (suc m) (2 ^ 53) in
    let c : Bool = leb (down e) (2 ^ 1074) in
    let d : Bool = ltb (suc m * up e) (2 ^ 1024 * down e) in
    record {
      digits = ltb→lt (suc m) (2 ^ 53) (and_r a b (and_l (a && b) c (and_l (a && b && c) d t)));
      deep = leb→le (down e) (2 ^ 1074) (and_r (a && b) c (and_l (a && b && c) d t));
      under = ltb→lt (suc m * up e) (2 ^ 1024 * down e) (and_r (a && b && c) d t);
    }

-- 2 ^ e is 2 ^ j units
scale : (e : ℤ) → down e ≤ 2 ^ 1074 → (j : ℕ) × (up e * 2 ^ 1074 ≡ 2 ^ j * down e)
scale (pos k) h = (k + 1074, sym (pow-add 2 k 1074) ∙ sym (mul-one (2 ^ (k + 1074))))
scale (negsuc k) h = (
  1074 - suc k,
  one-mul (2 ^ 1074)
      ∙ ap (λ (x : ℕ). 2 ^ x) (sum k (le_of_suc-le-suc (lt_of_not-le (λ (g : suc 1074 ≤ suc k). not-le_of_lt (pow-lt g) h))))
      ∙ pow-add 2 (1074 - suc k) (suc k),
)
  where
    sum : (k : ℕ) → suc k ≤ 1074 → 1074 ≡ 1074 - suc k + suc k
    sum k l = omega arith

-- the size of a value that fits is m * 2 ^ j units
pub in-units : (s : Bool) (m : ℕ) (e : ℤ) → IsBinary64 (fin s m e) → (j : ℕ) × (m * up e * 2 ^ 1074 ≡ m * 2 ^ j * down e)
in-units s m e t =
    let k = scale e (fits-says s m e t).deep in
    (k.0, mul_assoc m (up e) (2 ^ 1074) ∙ ap (λ (x : ℕ). m * x) k.1 ∙ sym (mul_assoc m (2 ^ k.0) (down e)))

pub record Held (a : ℕ) : Type 0 where
  pub m : ℕ
  pub j : ℕ
  pub digits : m < 2 ^ 53
  pub is : a ≡ m * 2 ^ j
  pub below : a < 2 ^ 2098

pub is_held : (x : Float) (s : Bool) (a : ℕ) → IsBinary64 x → HasUnits x s a → Held a
is_held nan s a t h = absurd h
is_held (inf u) s a t h = absurd h
is_held (fin u m e) s a t h =
    let w = fits-says u m e t in
    let k = in-units u m e t in
    let under : m * up e * 2 ^ 1074 < 2 ^ 1024 * down e * 2 ^ 1074 = mul-lt-mul_of_pos_right w.under (pow_pos 1074) in
    let top : m * up e * 2 ^ 1074 < 2 ^ 2098 * down e =
    subst (λ (x : ℕ). m * up e * 2 ^ 1074 < x) (mul_right_comm (2 ^ 1024) (down e) (2 ^ 1074)) under in
    record {
      m = m;
      j = k.0;
      digits = w.digits;
      is = eq_of_mul-eq-mul_right (down e) (down_pos e) a (m * 2 ^ k.0) (sym h.1 ∙ k.1);
      below = lt_of_mul-lt-mul_right (down e) (subst (λ (x : ℕ). x < 2 ^ 2098 * down e) h.1 top);
    }

-- ---- two values that are not negative and have the same size are one
pub same_units : (v w : Float) (a : ℕ) → IsBinary64 v → IsBinary64 w → HasUnits v false a → HasUnits w false a → v ≡ w
same_units v w a f g h k = sym (of_bits-to_bits binary64 v f) ∙ ap (of_bits binary64) (to_bits-value v a h ∙ sym (to_bits-value w a k))
    ∙ of_bits-to_bits binary64 w g
