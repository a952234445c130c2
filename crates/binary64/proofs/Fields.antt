-- `abs` and `is_finite` by the fields of a value's bits. Assumes nothing.
use mathlib.Core.Path.{◌≡◌, refl, sym, ap, ◌∙◌}
use Prim.Native.Nat.{ℕ, zero, suc, ◌+◌, ◌/◌, ◌%◌, ◌^◌, ◌<◌}
use native.Mathlib.Nat.{mod-lt}
use native.Mathlib.Omega.{arith}
use mathlib.Core.Bool.{Bool, true, false, not, cond}
use lib.Dec.{ltb, leb, eqb}
use lib.Pow.{pow_pos}
use borrow.Author.Tests.{ltb-true, ltb-false, eqb-true, eqb-false}
use lib.Ieee.{nan, inf, binary64, odd, of_fields, of_bits}
use Rattle.binary64.specs.Steps.{abs, is_finite}
use Rattle.binary64.proofs.Decode.{fields, clear}

abs-odd : (d : ℕ) (s : Bool) (q k l : ℕ) → abs (odd d s q k l) ≡ odd d false q k l
unfolding abs odd
abs-odd d s zero k l = refl
abs-odd d s (suc q) k l = refl

abs-fields : (s : Bool) (x t : ℕ) → abs (of_fields binary64 s x t) ≡ of_fields binary64 false x t
unfolding abs of_fields
abs-fields s zero t = abs-odd 53 s t 0 1074
abs-fields s (suc x) t = go (eqb (suc x) 2047) (eqb t 0)
  where
    go : (b c : Bool) → abs (cond b (cond c (inf s) nan) (odd 53 s (2 ^ 52 + t) x 1074))
        ≡ cond b (cond c (inf false) nan) (odd 53 false (2 ^ 52 + t) x 1074)
    go true true = refl
    go true false = refl
    go false c = abs-odd 53 s (2 ^ 52 + t) x 1074

-- the sign's bit is the highest of 64
pub abs-bits : (b : ℕ) → of_bits binary64 (b % 2 ^ 63) ≡ abs (of_bits binary64 b)
abs-bits b =
    let e : b % 2 ^ 63 % 2 ^ 52 ≡ b % 2 ^ 52 = omega arith in
    clear (b % 2 ^ 63) (mod-lt b (pow_pos 63))
    ∙ ap (λ (y : ℕ). of_fields binary64 false (b % 2 ^ 63 / 2 ^ 52) y) e
    ∙ sym (ap abs (fields b) ∙ abs-fields (leb (2 ^ 63) b) (b % 2 ^ 63 / 2 ^ 52) (b % 2 ^ 52))

finite-odd : (d : ℕ) (s : Bool) (q k l : ℕ) → is_finite (odd d s q k l) ≡ true
unfolding is_finite odd
finite-odd d s zero k l = refl
finite-odd d s (suc q) k l = refl

finite-fields : (s : Bool) (x t : ℕ) → is_finite (of_fields binary64 s x t) ≡ not (eqb x 2047)
unfolding is_finite of_fields
finite-fields s zero t = finite-odd 53 s t 0 1074
finite-fields s (suc x) t = go (eqb (suc x) 2047) (eqb t 0)
  where
    go : (b c : Bool) → is_finite (cond b (cond c (inf s) nan) (odd 53 s (2 ^ 52 + t) x 1074)) ≡ not b
    go true true = refl
    go true false = refl
    go false c = finite-odd 53 s (2 ^ 52 + t) x 1074

-- below the bits of an infinity the exponent's field is not all ones
pub finite-bits : (b : ℕ) → ltb (b % 2 ^ 63) 0x7ff0_0000_0000_0000 ≡ is_finite (of_bits binary64 b)
finite-bits b =
    below (b % 2 ^ 63) (mod-lt b (pow_pos 63)) (ltb (b % 2 ^ 63) 0x7ff0_0000_0000_0000) refl (eqb (b % 2 ^ 63 / 2 ^ 52) 2047) refl
    ∙ sym (ap is_finite (fields b) ∙ finite-fields (leb (2 ^ 63) b) (b % 2 ^ 63 / 2 ^ 52) (b % 2 ^ 52))
  where
    below : (r : ℕ) → r < 2 ^ 63 → (t : Bool) → ltb r 0x7ff0_0000_0000_0000 ≡ t → (u : Bool) → eqb (r / 2 ^ 52) 2047 ≡ u → t ≡ not u
    below r h true e true f = let z : r / 2 ^ 52 ≡ 2047 = eqb-true (r / 2 ^ 52) 2047 f in absurd (omega (arith, ltb-true r 0x7ff0_0000_0000_0000 e))
    below r h true e false f = refl
    below r h false e true f = refl
    below r h false e false f = absurd (eqb-false (r / 2 ^ 52) 2047 f (omega (arith, ltb-false r 0x7ff0_0000_0000_0000 e)))
