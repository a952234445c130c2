-- The bits of a number without the sign: its magnitude and its high word; and what a sum of squares that is a number tells of what was squared.
-- Assumes nothing.
use Rattle.std.proofs.Common.{◌≡◌, ◌*◌, ◌/◌, ◌%◌, ◌^◌, ◌≤◌, Bool, true, not, T, refl, ap, ◌∙◌, subst, arith, nltb→le}
use lib.Ieee.{Float, nan, inf, fin, binary64, hid, ones, top, is_nan, mul, fits, to_bits}
use lib.Ieee.Bits.{nan_bits_above}
use Rattle.binary64.specs.Steps.{◌⊕◌, ◌⊗◌, #, abs}
use Rattle.binary64.proofs.Patterns.{back, clear-number}
use Rattle.binary64.proofs.Fields.{abs-bits}
use Rattle.binary64.proofs.Numbers.{add_none, none-add}
use Rattle.libm.specs.Words.{high}

pub magnitude : (x : Float) → fits binary64 x ≡ true → # (to_bits binary64 x % 2 ^ 63) ≡ abs x
magnitude x f = abs-bits (to_bits binary64 x) ∙ ap abs (back x f)

pub high_word : (x : Float) → to_bits binary64 x % 2 ^ 63 / 2 ^ 32 ≡ high x
unfolding high
high_word x = omega arith

-- no bits above the infinity's
pub to-infinity : (x : Float) → fits binary64 x ≡ true → T (not (is_nan x)) → to_bits binary64 x % 2 ^ 63 ≤ 0x7ff0_0000_0000_0000
to-infinity x f n =
    let b = to_bits binary64 x % 2 ^ 63 in
    let t = subst (λ (z : Bool). T (not z)) (nan_bits_above binary64 b) (clear-number x f n) in
    let l : b % 2 ^ 63 ≤ 0x7ff0_0000_0000_0000 = nltb→le (ones binary64 * hid binary64) (b % top binary64) t in
    omega arith

none-square : mul binary64 nan nan ≡ nan
unfolding mul
none-square = refl

no-number : (x : Float) → x ≡ nan → T (not (is_nan x)) → ⊥
unfolding is_nan
no-number x e t = subst (λ (y : Float). T (not (is_nan y))) e t

pub first-number : (x y : Float) → T (not (is_nan (x ⊗ x ⊕ y ⊗ y))) → T (not (is_nan x))
unfolding is_nan
first-number nan y t = absurd (no-number _ (ap (λ (z : Float). z ⊕ y ⊗ y) none-square ∙ none-add binary64 (y ⊗ y)) t)
first-number (inf s) y t = tt
first-number (fin s m e) y t = tt

pub second-number : (x y : Float) → T (not (is_nan (x ⊗ x ⊕ y ⊗ y))) → T (not (is_nan y))
unfolding is_nan
second-number x nan t = absurd (no-number _ (ap (λ (z : Float). x ⊗ x ⊕ z) none-square ∙ add_none binary64 (x ⊗ x)) t)
second-number x (inf s) t = tt
second-number x (fin s m e) t = tt
