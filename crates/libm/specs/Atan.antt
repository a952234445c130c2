-- The arc tangent: s_atan.c and e_atan2.c of fdlibm 5.3. Definitions only.
use Rattle.std.specs.Prelude.{ℕ, ◌+◌, ◌*◌, ◌^◌, cond, ◌&&◌, ◌||◌, [], ◌∷◌, ◌==◌, nat_le, nat_lt, slice_index_or, Float}
use Rattle.std.specs.Float.{nan}
use Rattle.std.specs.Float.Ieee.{neg, eq, ne}
use Rattle.binary64.specs.Steps.{◌⊕◌, ◌⊖◌, ◌⊗◌, ◌⊘◌, #, nought, one, half, two, abs}
use Rattle.libm.specs.Words.{high, negative, signed, switch}
use Rattle.libm.specs.declared.atan.Arc.{Arc}

-- atanhi[] and atanlo[] of s_atan.c, the arc tangents of 0.5, 1, 1.5 and infinity in two parts:
--   4.63647609000806093515e-01 and 2.26987774529616870924e-17
--   7.85398163397448278999e-01 and 3.06161699786838301793e-17
--   9.82793723247329054082e-01 and 1.39033110312309984516e-17
--   1.57079632679489655800e+00 and 6.12323399573676603587e-17
abbrev pub atanhi : ℕ → Float
atanhi id =
    slice_index_or (# 0x3FDDAC670561BB4F ∷ # 0x3FE921FB54442D18 ∷ # 0x3FEF730BD281F69B ∷ # 0x3FF921FB54442D18 ∷ []) id nan

abbrev pub atanlo : ℕ → Float
atanlo id =
    slice_index_or (# 0x3C7A2B7F222F65E2 ∷ # 0x3C81A62633145C07 ∷ # 0x3C7007887AF0CBBD ∷ # 0x3C91A62633145C07 ∷ []) id nan

-- s1 + s2, with aT[]: "break sum from i=0 to 10 aT[i]z**(i+1) into odd and even poly"
unfoldable pub series : Float → Float
series x =
    let a_t0 = # 0x3FD555555555550D in  -- 3.33333333333329318027e-01
    let a_t1 = # 0xBFC999999998EBC4 in  -- -1.99999999998764832476e-01
    let a_t2 = # 0x3FC24924920083FF in  -- 1.42857142725034663711e-01
    let a_t3 = # 0xBFBC71C6FE231671 in  -- -1.11111104054623557880e-01
    let a_t4 = # 0x3FB745CDC54C206E in  -- 9.09088713343650656196e-02
    let a_t5 = # 0xBFB3B0F2AF749A6D in  -- -7.69187620504482999495e-02
    let a_t6 = # 0x3FB10D66A0D03D51 in  -- 6.66107313738753120669e-02
    let a_t7 = # 0xBFADDE2D52DEFD9A in  -- -5.83357013379057348645e-02
    let a_t8 = # 0x3FA97B4B24760DEB in  -- 4.97687799461593236017e-02
    let a_t9 = # 0xBFA2B4442C6A6C2F in  -- -3.65315727442169155270e-02
    let a_t10 = # 0x3F90AD3AE322DA11 in  -- 1.62858201153657823623e-02
    let z = x ⊗ x in
    let w = z ⊗ z in
    let s1 = z ⊗ (a_t0 ⊕ w ⊗ (a_t2 ⊕ w ⊗ (a_t4 ⊕ w ⊗ (a_t6 ⊕ w ⊗ (a_t8 ⊕ w ⊗ a_t10))))) in
    let s2 = w ⊗ (a_t1 ⊕ w ⊗ (a_t3 ⊕ w ⊗ (a_t5 ⊕ w ⊗ (a_t7 ⊕ w ⊗ a_t9)))) in
    s1 ⊕ s2

-- the argument reduction from 7/16 on, of a = |x| by its high word: atanhi[id], atanlo[id] and the new x. 0x3FE60000 is
-- 11/16, 0x3FF30000 is 19/16, 0x40038000 is 39/16.
unfoldable pub reduce : Float → ℕ → Arc
reduce a ix =
    let onehalf = # 0x3FF8000000000000 in  -- 1.5
    cond (nat_lt ix 0x3ff30000)
    (cond (nat_lt ix 0x3fe60000) (record { hi = atanhi 0; lo = atanlo 0; x = (two ⊗ a ⊖ one) ⊘ (two ⊕ a) })
    (record { hi = atanhi 1; lo = atanlo 1; x = (a ⊖ one) ⊘ (a ⊕ one) }))
    (cond (nat_lt ix 0x40038000) (record { hi = atanhi 2; lo = atanlo 2; x = (a ⊖ onehalf) ⊘ (one ⊕ onehalf ⊗ a) })
    (record { hi = atanhi 3; lo = atanlo 3; x = neg one ⊘ a }))

-- `atan`. Three choices decide bits: from the high word 0x44100000 on, which is 2^66, it is a quarter turn; below
-- 0x3E200000, which is 2^-29, it is x itself; and below 0x3FDC0000, which is 7/16, x is not reduced.
unfoldable pub atan : Float → Float
atan x =
    let p = reduce (abs x) (high x) in
    let z = p.hi ⊖ ((p.x ⊗ series p.x ⊖ p.lo) ⊖ p.x) in
    cond (nat_le 0x44100000 (high x)) (cond (ne x x) (x ⊕ x)
    (cond (negative x) (neg (atanhi 3) ⊖ atanlo 3) (atanhi 3 ⊕ atanlo 3)))
    (cond (nat_lt (high x) 0x3fdc0000) (cond (nat_lt (high x) 0x3e200000) x (x ⊖ x ⊗ series x))
    (signed x z))

-- the constants of e_atan2.c: 1.0e-300, 1.5707963267948965580E+00, 3.1415926535897931160E+00 and
-- 1.2246467991473531772E-16
abbrev pub tiny : Float
tiny = # 0x01A56E1FC2F8F359

abbrev pub pi-o-2 : Float
pi-o-2 = # 0x3FF921FB54442D18

abbrev pub pi : Float
pi = # 0x400921FB54442D18

abbrev pub pi-lo : Float
pi-lo = # 0x3CA1A62633145C07

-- m, "2*sign(x)+sign(y)"
unfoldable pub signs : Float → Float → ℕ
signs y x = 2 * cond (negative x) 1 0 + cond (negative y) 1 0

-- a quarter turn with the sign of y, for "when x = 0" and "when y is INF"
unfoldable pub quarter : Float → Float
quarter y = cond (negative y) (neg pi-o-2 ⊖ tiny) (pi-o-2 ⊕ tiny)

-- "when x is INF"
unfoldable pub x_inf : ℕ → ℕ → Float
x_inf m iy =
    let three = # 0x4008000000000000 in
    let pi-o-4 = # 0x3FE921FB54442D18 in  -- 7.8539816339744827900E-01
    cond (iy == 0x7ff00000) (switch m (pi-o-4 ⊕ tiny) (neg pi-o-4 ⊖ tiny) (three ⊗ pi-o-4 ⊕ tiny)
    (neg three ⊗ pi-o-4 ⊖ tiny))
    (switch m nought (neg one ⊗ nought) (pi ⊕ tiny) (neg pi ⊖ tiny))

-- "compute y/x", by the gap of the exponents, `k = (iy-ix)>>20`, and its limit of 60. The shift goes down: so k > 60 is
-- iy - ix ≥ 61 * 2^20, and k < -60 is iy - ix < -60 * 2^20.
unfoldable pub quotient : Float → Float → Float
quotient y x =
    cond (nat_le (high x + 61 * 2 ^ 20) (high y)) (pi-o-2 ⊕ half ⊗ pi-lo)
    (cond (negative x && nat_lt (high y + 60 * 2 ^ 20) (high x)) nought (atan (abs (y ⊘ x))))

-- `__ieee754_atan2`. One choice decides bits: m keeps the sign of x where k > 60, and later versions clear it there.
unfoldable pub atan2 : Float → Float → Float
atan2 y x =
    let m = signs y x in
    let z = quotient y x in
    cond (ne x x || ne y y) (x ⊕ y)
    (cond (eq x one) (atan y)
    (cond (eq y nought) (switch m y y (pi ⊕ tiny) (neg pi ⊖ tiny))
    (cond (eq x nought) (quarter y)
    (cond (high x == 0x7ff00000) (x_inf m (high y))
    (cond (high y == 0x7ff00000) (quarter y)
    (switch m z (neg z) (pi ⊖ (z ⊖ pi-lo)) ((z ⊖ pi-lo) ⊖ pi)))))))
