-- Bounds on |x| from its high word, and on what a high word makes. Assumes nothing.
use Rattle.std.proofs.Common.{◌≡◌, ℕ, zero, suc, ◌+◌, ◌-◌, ◌*◌, ◌/◌, ◌%◌, ◌^◌, ◌<◌, ◌≤◌, true, false, T, ◌⊎◌, sym, ap, ◌∙◌, subst, inl, inr, lt_irrefl, mul_assoc, eq-zero-or-pos, arith, pow-add, le-ltb, lt-ltb}
use lib.Ieee.{Float, binary64, le, lt, fits, of_fields, of_bits, to_bits}
use lib.Ieee.Bits.{of_bits-fits, is_true}
use lib.Ieee.Exact.{HasValue}
use Rattle.binary64.specs.Steps.{#, nought, abs}
use Rattle.binary64.proofs.Decode.{clear}
use Rattle.binary64.proofs.Fields.{finite-bits}
use Rattle.binary64.proofs.Units.{Is, P, N}
use Rattle.binary64.proofs.Interval.{In}
use Rattle.binary64.proofs.Tail.{val-units}
use Rattle.binary64.proofs.Order.{lt→le, nlt→le, abs_is, finite-is, is-finite}
use Rattle.libm.specs.Words.{high, word}
use Rattle.libm.proofs.Sizes.{size, value, own_bits, by_bits, by_high}

-- below the high word of an infinity
pub word-is : (h : ℕ) → h < 0x7ff00000 → Is binary64 (word h)
word-is h k = (
  of_bits-fits binary64 (h * 2 ^ 32),
  is-finite (word h)
      (sym (finite-bits (h * 2 ^ 32)) ∙ lt-ltb (h * 2 ^ 32 % 2 ^ 63) 0x7ff0000000000000 (omega arith)),
)

word-mono : (a b : ℕ) → a ≤ b → b < 0x7ff00000 → T (le (word a) (word b))
word-mono a b h k =
    nlt→le binary64 (word b) (word a) (word-is b k) (word-is a (omega arith))
    (by_bits (b * 2 ^ 32) (a * 2 ^ 32) (omega arith) (omega arith) ∙ le-ltb (b * 2 ^ 32) (a * 2 ^ 32) (omega arith))

pub word_in : (a h b : ℕ) → a ≤ h → h ≤ b → b < 0x7ff00000 → In binary64 (word a) (word b) (word h)
word_in a h b l m k = record {
  lo-is = word-is a (omega arith);
  hi-is = word-is b k;
  is = word-is h (omega arith);
  least = word-mono a h l (omega arith);
  most = word-mono h b m k;
}

-- in units: k more in the exponent's field is 2 ^ k times as much, where the field is not 0
normal : (x t : ℕ) → 0 < x → size x t ≡ (2 ^ 52 + t) * 2 ^ (x - 1)
normal zero t h = absurd (lt_irrefl 0 h)
normal (suc x) t h = ap (λ (z : ℕ). (2 ^ 52 + t) * 2 ^ z) (less x)
  where
    less : (x : ℕ) → x ≡ suc x - 1
    less x = omega arith

word-units : (h : ℕ) → h < 0x7ff00000 → (P binary64 (word h) ≡ size (h / 2 ^ 20) (h % 2 ^ 20 * 2 ^ 32)) × (N binary64 (word h) ≡ 0)
word-units h k =
    let b = h * 2 ^ 32 in
    let e : b / 2 ^ 52 ≡ h / 2 ^ 20 = omega arith in
    let d : b % 2 ^ 52 ≡ h % 2 ^ 20 * 2 ^ 32 = omega arith in
    let f : word h ≡ of_fields binary64 false (h / 2 ^ 20) (h % 2 ^ 20 * 2 ^ 32) =
    clear b (omega arith) ∙ ap (λ (z : ℕ). of_fields binary64 false z (b % 2 ^ 52)) e ∙ ap (λ (z : ℕ). of_fields binary64 false (h / 2 ^ 20) z) d in
    val-units binary64 (word h) (size (h / 2 ^ 20) (h % 2 ^ 20 * 2 ^ 32)) (word-is h k).0
    (subst (λ (z : Float). HasValue z false (size (h / 2 ^ 20) (h % 2 ^ 20 * 2 ^ 32)) (2 ^ 1074)) (sym f)
    (value (h / 2 ^ 20) (h % 2 ^ 20 * 2 ^ 32) (omega arith)))

pub word-plus : (h : ℕ) → h < 0x7ff00000 → N binary64 (word h) ≡ 0
word-plus h k = (word-units h k).1

pub word-shift : (h k : ℕ) → 0x100000 ≤ h → h + k * 2 ^ 20 < 0x7ff00000 → P binary64 (word (h + k * 2 ^ 20)) ≡ P binary64 (word h) * 2 ^ k
word-shift h k l m =
    let t = h % 2 ^ 20 * 2 ^ 32 in
    let x = h / 2 ^ 20 in
    let e : (h + k * 2 ^ 20) / 2 ^ 20 ≡ x + k = omega arith in
    let d : (h + k * 2 ^ 20) % 2 ^ 20 * 2 ^ 32 ≡ t = omega arith in
    (word-units (h + k * 2 ^ 20) m).0
    ∙ ap (λ (z : ℕ). size z ((h + k * 2 ^ 20) % 2 ^ 20 * 2 ^ 32)) e
    ∙ ap (size (x + k)) d
    ∙ normal (x + k) t (omega arith)
    ∙ ap (λ (z : ℕ). (2 ^ 52 + t) * 2 ^ z) (apart x k (omega arith))
    ∙ ap (λ (z : ℕ). (2 ^ 52 + t) * z) (pow-add 2 (x - 1) k)
    ∙ sym (mul_assoc (2 ^ 52 + t) (2 ^ (x - 1)) (2 ^ k))
    ∙ ap (λ (z : ℕ). z * 2 ^ k) (sym ((word-units h (omega arith)).0 ∙ normal x t (omega arith)))
  where
    apart : (x k : ℕ) → 0 < x → x + k - 1 ≡ x - 1 + k
    apart x k h = omega arith

module _ (x : Float) (p : Is binary64 x) where
  high_lt : (h : ℕ) → h < 0x7ff00000 → high x < h → lt (abs x) (word h) ≡ true
  high_lt h k l = by_high x h (is_true _ p.0) (finite-is x p.1) k ∙ lt-ltb (high x) h l

  pub high-below : (h : ℕ) → h < 0x7ff00000 → high x < h → T (le (abs x) (word h))
  high-below h k l = lt→le (abs x) (word h) (high_lt h k l)

  pub high-above : (h : ℕ) → h < 0x7ff00000 → h ≤ high x → T (le (word h) (abs x))
  high-above h k l = nlt→le binary64 (abs x) (word h) (abs_is x p) (word-is h k)
      (by_high x h (is_true _ p.0) (finite-is x p.1) k ∙ le-ltb (high x) h l)

  pub high-between : (a b : ℕ) → b < 0x7ff00000 → a ≤ high x → high x < b → In binary64 (word a) (word b) (abs x)
  high-between a b k l m =
      let A = word-is a (omega arith) in
      record { lo-is = A; hi-is = word-is b k; is = abs_is x p; least = high-above a (omega arith) l; most = high-below b k m }

  -- its bits, in the same order
  bits : (abs x ≡ # (to_bits binary64 x % 2 ^ 63)) × (to_bits binary64 x % 2 ^ 63 < 0x7ff0000000000000)
  bits = own_bits x (is_true _ p.0) (finite-is x p.1)

  pub high-finite : high x < 0x7ff00000
  unfolding high
  high-finite = omega (arith, bits.1)

  -- the greatest finite value
  pub at_most : T (le (abs x) (# 0x7FEFFFFFFFFFFFFF))
  unfolding fits of_bits
  at_most =
      let b = to_bits binary64 x % 2 ^ 63 in
      nlt→le binary64 (# 0x7FEFFFFFFFFFFFFF) (abs x) (tt, tt) (abs_is x p)
      (ap (lt (# 0x7FEFFFFFFFFFFFFF)) bits.0 ∙ by_bits 0x7FEFFFFFFFFFFFFF b (omega arith) bits.1
      ∙ le-ltb 0x7FEFFFFFFFFFFFFF b (omega (arith, bits.1)))

  -- 0, or no less than the least value above 0
  pub zero-or-least : (abs x ≡ nought) ⊎ T (le (# 1) (abs x))
  unfolding fits of_bits
  zero-or-least =
      let b = to_bits binary64 x % 2 ^ 63 in
      elim (eq-zero-or-pos b) [
        | inl z ↦ inl (bits.0 ∙ ap # z)
        | inr l ↦
            inr (nlt→le binary64 (abs x) (# 1) (abs_is x p) (tt, tt)
            (ap (λ (v : Float). lt v (# 1)) bits.0 ∙ by_bits b 1 bits.1 (omega arith) ∙ le-ltb b 1 (omega arith)))
      ]
