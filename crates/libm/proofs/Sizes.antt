-- A test by high words is a test of size: the bits of two values that are finite and not negative have the values' order, so the high word of x is
-- below h exactly where |x| is below the value with the high word h and the low word 0. Assumes nothing.
use Rattle.std.proofs.Common.{◌≡◌, ℕ, zero, suc, ◌+◌, ◌*◌, ◌/◌, ◌%◌, ◌^◌, ◌<◌, ◌≤◌, Bool, true, false, ltb, sym, refl, ap, ◌∙◌, subst, inl, inr, true≢false, le_trans, le_of_eq, lt_of_lt_of_le, le_of_lt, mul-le-mul_right, mul_assoc, mul-le-mul, eq-or-lt_of_le, mul-lt-mul_of_pos_right, lt_of_not-le, not-le_of_lt, le-mul_of_pos_right, le_of_mul-le-mul_right, arith, pow_pos, pow_mono, pow-add, ltb-false, ltb-true, le-ltb, lt-ltb}
use lib.Ieee.{Float, nan, inf, fin, binary64, up, down, lt, of_fields, to_bits, fits}
use lib.Ieee.Exact.{HasValue}
use lib.Ieee.Fits.{down_pos}
use lib.Ieee.Order.{transfer}
use Rattle.binary64.specs.Steps.{#, abs, is_finite}
use Rattle.binary64.proofs.Patterns.{back}
use Rattle.binary64.proofs.Decode.{fields-low, fields-mid, clear}
use Rattle.binary64.proofs.Fields.{abs-bits, finite-bits}
use Rattle.libm.specs.Words.{high, word}

-- ---- a value of the exponent's field x and the digits t, in units of 2 ^ -1074
abbrev pub size : ℕ → ℕ → ℕ
size zero t = t
size (suc x) t = (2 ^ 52 + t) * 2 ^ x

pub value : (x t : ℕ) → x < 2047 → HasValue (of_fields binary64 false x t) false (size x t) (2 ^ 1074)
value zero t h = fields-low false t
value (suc x) t h = fields-mid false x t h

-- fields first, then digits
grows : (x y t u : ℕ) → t < 2 ^ 52 → x * 2 ^ 52 + t < y * 2 ^ 52 + u → u < 2 ^ 52 → size x t < size y u
grows zero zero t u h k l = omega arith
grows zero (suc y) t u h k l = lt_of_lt_of_le h (le_trans (omega arith) (le-mul_of_pos_right (2 ^ 52 + u) (pow_pos y)))
grows (suc x) zero t u h k l = absurd (omega arith)
grows (suc x) (suc y) t u h k l = elim (eq-or-lt_of_le below) [
  | inl e ↦ subst (λ (z : ℕ). (2 ^ 52 + t) * 2 ^ x < (2 ^ 52 + u) * 2 ^ z) e (mul-lt-mul_of_pos_right (digits e) (pow_pos x))
  | inr m ↦
      let double : 2 * 2 ^ x ≤ 2 ^ y = le_trans (le_of_eq (sym (pow-add 2 1 x))) (pow_mono (next m)) in
      lt_of_lt_of_le (mul-lt-mul_of_pos_right carry (pow_pos x))
      (le_trans (le_of_eq (mul_assoc (2 ^ 52) 2 (2 ^ x))) (mul-le-mul (omega arith) double))
]
  where
    below : x ≤ y
    below = omega arith

    digits : x ≡ y → 2 ^ 52 + t < 2 ^ 52 + u
    digits e = omega arith

    carry : 2 ^ 52 + t < 2 ^ 52 * 2
    carry = omega arith

    next : x < y → 1 + x ≤ y
    next m = omega arith

-- ---- the order of bits is the order of values
same : (v w a b : ℕ) → (a < b → v < w) → (b ≤ a → w ≤ v) → ltb v w ≡ ltb a b
same v w a b f g = go (ltb a b) refl
  where
    go : (t : Bool) → ltb a b ≡ t → ltb v w ≡ t
    go true e = lt-ltb v w (f (ltb-true a b e))
    go false e = le-ltb v w (g (ltb-false a b e))

-- values of a and b units
by_units : (p q : Float) (a b c : ℕ) → 0 < c → HasValue p false a c → HasValue q false b c → lt p q ≡ ltb a b
unfolding lt
by_units nan q a b c C h k = absurd h
by_units (inf s) q a b c C h k = absurd h
by_units (fin true m e) q a b c C h k = absurd (true≢false h.0)
by_units (fin false m e) nan a b c C h k = absurd k
by_units (fin false m e) (inf s) a b c C h k = absurd k
by_units (fin false m e) (fin true n d) a b c C h k = absurd (true≢false k.0)
by_units (fin false m e) (fin false n d) a b c C h k =
    same (m * up e * down d) (n * up d * down e) a b
    (λ l. lt_of_not-le (λ u. not-le_of_lt l (le_of_mul-le-mul_right
    (transfer b a c c (n * up d) (m * up e) (down d) (down e) (down_pos d) (down_pos e) (sym k.1) (sym h.1) u) C)))
    (λ l. transfer (n * up d) (m * up e) (down d) (down e) b a c c C C k.1 h.1 (mul-le-mul_right c l))

fields-grow : (p q : ℕ) → p < q → size (p / 2 ^ 52) (p % 2 ^ 52) < size (q / 2 ^ 52) (q % 2 ^ 52)
fields-grow p q h = grows (p / 2 ^ 52) (q / 2 ^ 52) (p % 2 ^ 52) (q % 2 ^ 52) (omega arith) (omega arith) (omega arith)

fields_keep : (p q : ℕ) → q ≤ p → size (q / 2 ^ 52) (q % 2 ^ 52) ≤ size (p / 2 ^ 52) (p % 2 ^ 52)
fields_keep p q h = elim (eq-or-lt_of_le h) [
  | inl e ↦ le_of_eq (ap (λ (z : ℕ). size (z / 2 ^ 52) (z % 2 ^ 52)) e)
  | inr l
      ↦ le_of_lt (fields-grow q p l)
]

-- bits below an infinity's
pub by_bits : (p q : ℕ) → p < 0x7ff0000000000000 → q < 0x7ff0000000000000 → lt (# p) (# q) ≡ ltb p q
by_bits p q h k =
    let u = value (p / 2 ^ 52) (p % 2 ^ 52) (omega arith) in
    let v = value (q / 2 ^ 52) (q % 2 ^ 52) (omega arith) in
    let w = by_units (of_fields binary64 false (p / 2 ^ 52) (p % 2 ^ 52)) (of_fields binary64 false (q / 2 ^ 52) (q % 2 ^ 52)) _ _ (2 ^ 1074)
    (pow_pos 1074) u v in
    rw (clear p (omega arith), clear q (omega arith)) (w ∙ same _ _ p q (fields-grow p q) (fields_keep p q))

-- a finite x and its bits without the sign
pub own_bits : (x : Float) → fits binary64 x ≡ true → is_finite x ≡ true
    → (abs x ≡ # (to_bits binary64 x % 2 ^ 63)) × (to_bits binary64 x % 2 ^ 63 < 0x7ff0000000000000)
own_bits x f n =
    let b = to_bits binary64 x in
    (sym (abs-bits b ∙ ap abs (back x f)), ltb-true (b % 2 ^ 63) 0x7ff0000000000000 (finite-bits b ∙ ap is_finite (back x f) ∙ n))

-- a finite x by its high word
pub by_high : (x : Float) (h : ℕ) → fits binary64 x ≡ true → is_finite x ≡ true → h < 0x7ff00000 → lt (abs x) (word h) ≡ ltb (high x) h
unfolding high
by_high x h f n k =
    let b = to_bits binary64 x in
    let o = own_bits x f n in
    rw o.0
    (by_bits (b % 2 ^ 63) (h * 2 ^ 32) o.1 (omega arith)
    ∙ same (b % 2 ^ 63) (h * 2 ^ 32) (b / 2 ^ 32 % 2 ^ 31) h (λ u. omega arith) (λ u. omega arith))
