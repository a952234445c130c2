-- The bits of a root: of m * 2 ^ p units, for an m of 53 binary digits, and of a normal value, by its own bits. Assumes nothing.
use mathlib.Core.Path.{◌≡◌, sym, ap, ◌∙◌, subst}
use Prim.Native.Nat.{ℕ, zero, suc, ◌+◌, ◌-◌, ◌*◌, ◌/◌, ◌%◌, ◌^◌, ◌≤◌, ◌<◌}
use native.Mathlib.Nat.{mul_assoc, mul-pos, div-lt_iff_lt-mul}
use native.Mathlib.Omega.{arith}
use mathlib.Core.Bool.{false}
use lib.Pow.{pow-add, pow_pos}
use lib.Bits.{bit_and, and_mask, mask_lt}
use lib.Ieee.{binary64, of_bits, of_fields}
use Rattle.binary64.specs.Root.{root, root_units}
use Rattle.binary64.specs.Held.{Nearest}
use Rattle.binary64.proofs.Shift.{range}
use Rattle.binary64.proofs.Decode.{clear, fields-mid, root-value}
use Rattle.binary64.proofs.RootLaw.{root-law}
use Rattle.binary64.proofs.BitsLaw.{bits-law}
use Rattle.binary64.proofs.RootDigits.{least, most}

-- ---- of m * 2 ^ p units, which are w * (2 ^ half) ^ 2 for a w of 105 or 106 binary digits
parts : (p : ℕ) → 52 ≤ p → p ≡ p % 2 + (52 + ((p - 52) / 2 + (p - 52) / 2))
parts p h = omega arith

scaled : (m p : ℕ) → 52 ≤ p → m * 2 ^ p ≡ m * 2 ^ (p % 2) * 2 ^ 52 * (2 ^ ((p - 52) / 2) * 2 ^ ((p - 52) / 2))
scaled m p h =
    let o = p % 2 in
    let j = (p - 52) / 2 in
    ap (λ (x : ℕ). m * 2 ^ x) (parts p h)
    ∙ ap (λ (x : ℕ). m * x)
    (pow-add 2 o (52 + (j + j)) ∙ ap (λ (x : ℕ). 2 ^ o * x) (pow-add 2 52 (j + j) ∙ ap (λ (x : ℕ). 2 ^ 52 * x) (pow-add 2 j j)))
    ∙ sym (mul_assoc m (2 ^ o) (2 ^ 52 * (2 ^ j * 2 ^ j)))
    ∙ sym (mul_assoc (m * 2 ^ o) (2 ^ 52) (2 ^ j * 2 ^ j))

module _ (m p r : ℕ) (lo : 2 ^ 52 ≤ m) (hi : m < 2 ^ 53) (near : Nearest (m * 2 ^ (p % 2) * 2 ^ 52) r) where
  pub bounds : (2 ^ 52 ≤ r) × (r ≤ 2 ^ 53)
  bounds =
      let w = m * 2 ^ (p % 2) * 2 ^ 52 in
      let g = range m (p % 2) lo hi (omega arith) in
      (least w r (omega arith) near, most w r (omega arith) near)

  pub result
      : 52 ≤ p → p ≤ 3119
      → ((p - 52) / 2 * 2 ^ 52 + r < 0x7ff0_0000_0000_0000) × (of_bits binary64 ((p - 52) / 2 * 2 ^ 52 + r) ≡ root_units (m * 2 ^ p))
  result c d =
      let o_lt : p % 2 < 2 = omega arith in
      let g = range m (p % 2) lo hi o_lt in
      let h = bounds in (
        omega arith,
        bits-law r ((p - 52) / 2) h.0 h.1 (omega arith)
            ∙ sym (root-law (m * 2 ^ (p % 2) * 2 ^ 52) ((p - 52) / 2) r (omega arith) (omega arith) near)
            ∙ ap root_units (sym (scaled m p c)),
      )

-- ---- of a normal value with the bits b, whose binary digits are these, with the leading one
abbrev pub digits_of : ℕ → ℕ
digits_of b = bit_and b 0xf_ffff_ffff_ffff + 2 ^ 52

pub digits-range : (b : ℕ) → (2 ^ 52 ≤ digits_of b) × (digits_of b < 2 ^ 53)
digits-range b = (omega arith, omega (arith, mask_lt b 52))

pub normal : (b : ℕ) → 0 < b / 2 ^ 52 → b < 0x7ff0_0000_0000_0000 → root (of_bits binary64 b) ≡ root_units (digits_of b * 2 ^ (b / 2 ^ 52 + 1073))
normal b h l = go (b / 2 ^ 52) h ((div-lt_iff_lt-mul (pow_pos 52)).1 l) (clear b (omega arith))
  where
    t : ℕ
    t = b % 2 ^ 52

    go
        : (x : ℕ) → 0 < x → x < 2047 → of_bits binary64 b ≡ of_fields binary64 false x t
        → root (of_bits binary64 b) ≡ root_units (digits_of b * 2 ^ (x + 1073))
    go zero h l e = absurd (omega arith)
    go (suc x) h l e =
        ap root e
        ∙ root-value (of_fields binary64 false (suc x) t) ((2 ^ 52 + t) * 2 ^ x) (fields-mid false x t l) (mul-pos (omega arith) (pow_pos x))
        ∙ ap root_units
        (mul_assoc (2 ^ 52 + t) (2 ^ x) (2 ^ 1074)
        ∙ ap (λ (y : ℕ). (2 ^ 52 + t) * y) (sym (pow-add 2 x 1074) ∙ ap (λ (y : ℕ). 2 ^ y) (turn x))
        ∙ ap (λ (y : ℕ). y * 2 ^ (suc x + 1073)) (flip t ∙ ap (λ (y : ℕ). y + 2 ^ 52) (sym (and_mask b 52))))
      where
        turn : (x : ℕ) → x + 1074 ≡ suc x + 1073
        turn x = omega arith

        flip : (t : ℕ) → 2 ^ 52 + t ≡ t + 2 ^ 52
        flip t = omega arith

-- the whole number r nearest to the root of those digits, an odd power of two with them, gives the root's bits c; e is 52 below the power of two
pub root-bits-are
    : (b c e : ℕ) → 2 ^ 52 ≤ b → b < 0x7ff0_0000_0000_0000 → e ≡ b / 2 ^ 52 + 1021 → e / 2 * 2 ^ 52 ≤ c
    → Nearest (digits_of b * 2 ^ (e % 2) * 2 ^ 52) (c - e / 2 * 2 ^ 52) → of_bits binary64 c ≡ root (of_bits binary64 b)
root-bits-are b c e lo hi is le near =
    let p = b / 2 ^ 52 + 1073 in
    let few : b / 2 ^ 52 < 2047 = (div-lt_iff_lt-mul (pow_pos 52)).1 hi in
    let half : e / 2 ≡ (p - 52) / 2 = omega arith in
    let odd : e % 2 ≡ p % 2 = omega arith in
    let r = c - e / 2 * 2 ^ 52 in
    let sum : c ≡ (p - 52) / 2 * 2 ^ 52 + r = omega arith in
    let there : Nearest (digits_of b * 2 ^ (p % 2) * 2 ^ 52) r = subst (λ (x : ℕ). Nearest (digits_of b * 2 ^ x * 2 ^ 52) r) odd near in
    let d = digits-range b in
    ap (of_bits binary64) sum ∙ (result (digits_of b) p r d.0 d.1 there (omega arith) (omega arith)).1 ∙ sym (normal b (omega arith) hi)
