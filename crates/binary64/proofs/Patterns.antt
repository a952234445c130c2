-- An `f64` and its bits: a value that the format holds is what its bits stand for, and which bits and which tests rule out a not-a-number. Assumes
-- nothing.
use mathlib.Core.Path.{◌≡◌, refl, sym, ap, ◌∙◌, subst}
use Prim.Native.Nat.{ℕ, ◌%◌, ◌*◌, ◌^◌, ◌≤◌, ◌<◌}
use native.Mathlib.Nat.{mod-le, le_trans}
use native.Mathlib.Omega.{arith}
use mathlib.Core.Bool.{Bool, true, false, not, false≢true}
use lib.Dec.{T, ltb}
use lib.Arith.{le→nltb}
use lib.Ieee.{Float, nan, inf, fin, binary64, hid, ones, top, is_nan, nan_bits, div, le, ne, fits, of_bits, to_bits}
use lib.Ieee.Compare.{nan_differs, differs_from_itself}
use lib.Ieee.Bits.{nan_bits_is, nan_bits_above, of_bits-to_bits, to_bits-lt}

-- below the sign, bits at or below the infinity's
pub pattern_number : (n : ℕ) → n % 2 ^ 63 ≤ 0x7ff0_0000_0000_0000 → T (not (nan_bits binary64 n))
pattern_number n h = subst (λ (b : Bool). T (not b)) (sym (nan_bits_above binary64 n)) (le→nltb (ones binary64 * hid binary64) (n % top binary64) h)

pub no_nan : (n : ℕ) → n ≤ 0x7ff0_0000_0000_0000 → T (not (nan_bits binary64 n))
no_nan n h = pattern_number n (le_trans (mod-le n (top binary64)) h)

-- how the code makes one
pub zero_by_zero : div binary64 (of_bits binary64 0) (of_bits binary64 0) ≡ nan
unfolding div of_bits
zero_by_zero = refl

-- what is at least something is a number
pub le-number : (a y : Float) → le a y ≡ true → T (not (is_nan y))
unfolding le is_nan
le-number nan nan h = absurd (false≢true h)
le-number (inf s) nan h = absurd (false≢true h)
le-number (fin s m e) nan h = absurd (false≢true h)
le-number a (inf s) h = tt
le-number a (fin s m e) h = tt

-- what equals itself is a number
pub number : (x : Float) → ne x x ≡ false → T (not (is_nan x))
unfolding is_nan
number nan h = absurd (false≢true (sym h ∙ nan_differs))
number (inf s) h = tt
number (fin s m e) h = tt

-- what differs from itself is none
pub is-nan : (x : Float) → ne x x ≡ true → x ≡ nan
is-nan x h = differs_from_itself x (subst T (sym h) tt)

-- ---- a value that the format holds, as owning an `f64` tells
pub back : (x : Float) → fits binary64 x ≡ true → of_bits binary64 (to_bits binary64 x) ≡ x
back x h = of_bits-to_bits binary64 x (subst T (sym h) tt)

pub bits-lt : (x : Float) → fits binary64 x ≡ true → to_bits binary64 x < 2 ^ 64
bits-lt x h = to_bits-lt binary64 x (subst T (sym h) tt)

-- clearing the sign makes no not-a-number
pub clear-number : (x : Float) → fits binary64 x ≡ true → T (not (is_nan x)) → T (not (nan_bits binary64 (to_bits binary64 x % 2 ^ 63)))
clear-number x h n =
    let b = to_bits binary64 x in
    let e : b % 2 ^ 63 % 2 ^ 63 ≡ b % 2 ^ 63 = omega arith in
    let same : nan_bits binary64 (b % 2 ^ 63) ≡ is_nan x =
    nan_bits_above binary64 (b % 2 ^ 63)
    ∙ ap (ltb (ones binary64 * hid binary64)) e
    ∙ sym (nan_bits_above binary64 b)
    ∙ nan_bits_is binary64 b
    ∙ ap is_nan (back x h) in
    subst (λ (t : Bool). T (not t)) (sym same) n
