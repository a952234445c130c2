-- The bits h * 2 ^ 52 + r stand for r * 2 ^ h units, for an r of 53 binary digits or 2 ^ 53. Assumes nothing.
use mathlib.Core.Path.{◌≡◌, sym, ap, ◌∙◌, subst}
use mathlib.Core.Logic.{inl, inr}
use Prim.Native.Nat.{ℕ, suc, ◌+◌, ◌-◌, ◌*◌, ◌/◌, ◌^◌, ◌≤◌, ◌<◌}
use native.Mathlib.Nat.{le_of_eq, lt_of_le_of_lt, eq-or-lt_of_le, zero-add, mul-le-mul_right, mul-div_cancel}
use native.Mathlib.Omega.{arith}
use mathlib.Core.Bool.{false}
use lib.Dec.{T, lit<, lit≤}
use borrow.Author.Tests.{lt-ltb}
use lib.Pow.{pow-add, pow_pos, pow-lt, shl_lt}
use lib.Ieee.{Float, nan, inf, fin, binary64, up, down, size, odd, units, fits, of_bits, to_bits}
use lib.Ieee.Fits.{odd-fits, down_pos}
use lib.Ieee.Exact.{HasValue, odd_sign}
use lib.Ieee.Bits.{of_bits-to_bits}
use Rattle.binary64.proofs.RootLaw.{size_is}

-- the bits of a value that is not negative, by its size a in units
abbrev written : ℕ → ℕ → ℕ
written a k = k * 2 ^ 52 + a / 2 ^ k

pub to_bits-value : (v : Float) (a : ℕ) → HasValue v false a (2 ^ 1074) → to_bits binary64 v ≡ written a (size a - 53)
unfolding to_bits
to_bits-value nan a h = absurd h
to_bits-value (inf s) a h = absurd h
to_bits-value (fin s m e) a h =
    let n : m * up e * 2 ^ 1074 / down e ≡ a = ap (λ (x : ℕ). x / down e) h.1 ∙ mul-div_cancel a (down_pos e) in
    rw (h.0, n, zero-add)

units-odd : (r h : ℕ) → r * 2 ^ h < 2 ^ 2098 → units binary64 false r h ≡ odd 54 false r h 1074
unfolding units
units-odd r h l = rw (lt-ltb (r * 2 ^ h) (2 ^ 2098) l)

-- how many digits are dropped, and what is kept, where r has 53 digits, and where it is 2 ^ 53
written-mid : (r h : ℕ) → 2 ^ 52 ≤ r → r < 2 ^ 53 → written (r * 2 ^ h) (size (r * 2 ^ h) - 53) ≡ h * 2 ^ 52 + r
written-mid r h lo hi =
    let a : 2 ^ (52 + h) ≤ r * 2 ^ h = subst (λ (x : ℕ). x ≤ r * 2 ^ h) (sym (pow-add 2 52 h)) (mul-le-mul_right (2 ^ h) lo) in
    let b : r * 2 ^ h < 2 ^ suc (52 + h) = subst (λ (x : ℕ). r * 2 ^ h < 2 ^ x) (next h) (shl_lt 53 h hi) in
    ap (written (r * 2 ^ h)) (over h (size (r * 2 ^ h)) (size_is (r * 2 ^ h) (52 + h) a b))
    ∙ ap (λ (x : ℕ). h * 2 ^ 52 + x) (mul-div_cancel r (pow_pos h))
  where
    next : (h : ℕ) → 53 + h ≡ suc (52 + h)
    next h = omega arith

    over : (h z : ℕ) → z ≡ suc (52 + h) → z - 53 ≡ h
    over h z e = omega arith

written-law : (r h : ℕ) → 2 ^ 52 ≤ r → r ≤ 2 ^ 53 → written (r * 2 ^ h) (size (r * 2 ^ h) - 53) ≡ h * 2 ^ 52 + r
written-law r h lo hi = elim (eq-or-lt_of_le hi) [
  | inl e ↦
      ap (λ (x : ℕ). written x (size x - 53)) (ap (λ (x : ℕ). x * 2 ^ h) e ∙ double h)
      ∙ written-mid (2 ^ 52) (suc h) (lit≤ tt) (lit< tt)
      ∙ carry h r e
  | inr l ↦ written-mid r h lo l
]
  where
    double : (h : ℕ) → 2 ^ 53 * 2 ^ h ≡ 2 ^ 52 * 2 ^ suc h
    double h = sym (pow-add 2 53 h) ∙ ap (λ (x : ℕ). 2 ^ x) (shift h) ∙ pow-add 2 52 (suc h)
      where
        shift : (h : ℕ) → 53 + h ≡ 52 + suc h
        shift h = omega arith

    carry : (h r : ℕ) → r ≡ 2 ^ 53 → suc h * 2 ^ 52 + 2 ^ 52 ≡ h * 2 ^ 52 + r
    carry h r e = omega arith

-- the format reaches so far
pub in_reach : (r h : ℕ) → r ≤ 2 ^ 53 → h ≤ 2000 → r * 2 ^ h < 2 ^ 2098
in_reach r h hi l = lt_of_le_of_lt (mul-le-mul_right (2 ^ h) hi)
    (lt_of_le_of_lt (le_of_eq (sym (pow-add 2 53 h))) (pow-lt {i = 53 + h} {j = 2098} (omega arith)))

pub bits-law : (r h : ℕ) → 2 ^ 52 ≤ r → r ≤ 2 ^ 53 → h ≤ 2000 → of_bits binary64 (h * 2 ^ 52 + r) ≡ units binary64 false r h
bits-law r h lo hi l =
    let small = in_reach r h hi l in
    let v = odd 54 false r h 1074 in
    let f : T (fits binary64 v) = odd-fits binary64 54 false r h (lt_of_le_of_lt hi (lit< tt)) hi small in
    ap (of_bits binary64) (sym (to_bits-value v (r * 2 ^ h) (odd_sign 54 false r h 1074) ∙ written-law r h lo hi))
    ∙ of_bits-to_bits binary64 v f
    ∙ sym (units-odd r h small)
