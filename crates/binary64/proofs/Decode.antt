-- What bits stand for, in units of the format's smallest value, and `root` by that. Assumes nothing.
use mathlib.Core.Path.{◌≡◌, refl, sym, ap, ◌∙◌}
use Prim.Native.Nat.{ℕ, suc, ◌+◌, ◌*◌, ◌/◌, ◌%◌, ◌^◌, ◌<◌}
use native.Mathlib.Nat.{mod-eq_of_lt, mul-one, mul_assoc, mul_right_comm, mul-pos, mul-div_cancel}
use native.Mathlib.Omega.{arith}
use mathlib.Core.Bool.{Bool, true, false}
use lib.IntN.{ℤ}
use lib.Dec.{leb, eqb}
use borrow.Author.Tests.{lt-leb, ne_eqb}
use lib.Pow.{pow-add}
use lib.Ieee.{Float, nan, inf, fin, binary64, up, down, of_fields, of_bits}
use lib.Ieee.Fits.{down_pos}
use lib.Ieee.Exact.{HasValue, odd_sign}
use Rattle.binary64.specs.Root.{root, root_units}

-- ---- the fields
pub fields : (b : ℕ) → of_bits binary64 b ≡ of_fields binary64 (leb (2 ^ 63) b) (b % 2 ^ 63 / 2 ^ 52) (b % 2 ^ 52)
unfolding of_bits
fields b = refl

pub fields-low : (s : Bool) (t : ℕ) → HasValue (of_fields binary64 s 0 t) s t (2 ^ 1074)
unfolding of_fields
fields-low s t = rw mul-one at (odd_sign 53 s t 0 1074)

pub fields-mid : (s : Bool) (x t : ℕ) → suc x < 2047 → HasValue (of_fields binary64 s (suc x) t) s ((2 ^ 52 + t) * 2 ^ x) (2 ^ 1074)
unfolding of_fields
fields-mid s x t h = rw (ne_eqb (suc x) 2047 (λ e. omega arith)) (odd_sign 53 s (2 ^ 52 + t) x 1074)

-- bits with the sign clear
pub clear : (b : ℕ) → b < 2 ^ 63 → of_bits binary64 b ≡ of_fields binary64 false (b / 2 ^ 52) (b % 2 ^ 52)
clear b h = rw (fields b, lt-leb (2 ^ 63) b h, mod-eq_of_lt h)

-- ---- `root` by a value's size a in units
no_zero : (m a : ℕ) (e : ℤ) → m * up e * 2 ^ 1074 ≡ a * down e → 0 < a → eqb m 0 ≡ false
no_zero m a e h p = ne_eqb m 0 (λ z. none m (up e) (2 ^ 1074) (a * down e) z h (mul-pos p (down_pos e)))
  where
    none : (m u L n : ℕ) → m ≡ 0 → m * u * L ≡ n → 0 < n → ⊥
    none m u L n z h p = let g : 0 * u * L ≡ n = rw z at h in omega arith

scaled : (n d a : ℕ) → 0 < d → n * 2 ^ 1074 ≡ a * d → n * 2 ^ 2148 / d ≡ a * 2 ^ 1074
scaled n d a p h =
    ap (λ (x : ℕ). x / d) (ap (λ (x : ℕ). n * x) (pow-add 2 1074 1074) ∙ sym (mul_assoc n (2 ^ 1074) (2 ^ 1074)) ∙ ap (λ (x : ℕ). x * 2 ^ 1074) h
    ∙ mul_right_comm a d (2 ^ 1074))
    ∙ mul-div_cancel (a * 2 ^ 1074) p

pub root-value : (v : Float) (a : ℕ) → HasValue v false a (2 ^ 1074) → 0 < a → root v ≡ root_units (a * 2 ^ 1074)
unfolding root
root-value nan a h p = absurd h
root-value (inf s) a h p = absurd h
root-value (fin s m e) a h p = rw (no_zero m a e h.1 p, h.0, scaled (m * up e) (down e) a (down_pos e) h.1)

-- a value that is negative, and not zero, has no root
pub root-negative : (v : Float) (a : ℕ) → HasValue v true a (2 ^ 1074) → 0 < a → root v ≡ nan
unfolding root
root-negative nan a h p = absurd h
root-negative (inf s) a h p = absurd h
root-negative (fin s m e) a h p = rw (no_zero m a e h.1 p, h.0)
