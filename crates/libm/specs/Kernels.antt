-- Sine and cosine from -pi/4 to pi/4: k_sin.c and k_cos.c of fdlibm 5.3. Definitions only.
use Rattle.std.specs.Prelude.{ℕ, ◌-◌, cond, ◌==◌, nat_lt, Float}
use Rattle.binary64.specs.Steps.{◌⊕◌, ◌⊖◌, ◌⊗◌, #, one, half}
use Rattle.libm.specs.Words.{high, word}

-- `__kernel_sin`: the sine of x + y, where y is the tail of x; iy is 0 where there is no tail. Three choices decide
-- bits: below the high word 0x3E400000, which is 2^-27, it is x itself; the polynomial is in Horner's form; and where
-- iy is 0 no step has y in it.
unfoldable pub k_sin : Float → Float → ℕ → Float
k_sin x y iy =
    let S1 = # 0xBFC5555555555549 in  -- -1.66666666666666324348e-01
    let S2 = # 0x3F8111111110F8A6 in  -- 8.33333333332248946124e-03
    let S3 = # 0xBF2A01A019C161D5 in  -- -1.98412698298579493134e-04
    let S4 = # 0x3EC71DE357B1FE7D in  -- 2.75573137070700676789e-06
    let S5 = # 0xBE5AE5E68A2B9CEB in  -- -2.50507602534068634195e-08
    let S6 = # 0x3DE5D93A5ACFD57C in  -- 1.58969099521155010221e-10
    let z = x ⊗ x in
    let v = z ⊗ x in
    let r = S2 ⊕ z ⊗ (S3 ⊕ z ⊗ (S4 ⊕ z ⊗ (S5 ⊕ z ⊗ S6))) in
    cond (nat_lt (high x) 0x3e400000) x
    (cond (iy == 0) (x ⊕ v ⊗ (S1 ⊕ z ⊗ r))
    (x ⊖ ((z ⊗ (half ⊗ y ⊖ v ⊗ r) ⊖ y) ⊖ v ⊗ S1)))

-- k_cos.c's qx, by the high word of x: 0.28125 above 0x3FE90000, which is 0.78125, and else |x| / 4 with the low word
-- cleared, the high word less 2 in its exponent
unfoldable pub qx : ℕ → Float
qx ix = cond (nat_lt 0x3fe90000 ix) (# 0x3FD2000000000000) (word (ix - 0x00200000))

-- `__kernel_cos`: the cosine of x + y, where y is the tail of x. Two choices decide bits: below the high word
-- 0x3E400000, which is 2^-27, it is 1; and from the high word 0x3FD33333 on, about 0.3, it is the form with qx, which
-- later versions replaced.
unfoldable pub k_cos : Float → Float → Float
k_cos x y =
    let C1 = # 0x3FA555555555554C in  -- 4.16666666666666019037e-02
    let C2 = # 0xBF56C16C16C15177 in  -- -1.38888888888741095749e-03
    let C3 = # 0x3EFA01A019CB1590 in  -- 2.48015872894767294178e-05
    let C4 = # 0xBE927E4F809C52AD in  -- -2.75573143513906633035e-07
    let C5 = # 0x3E21EE9EBDB4B1C4 in  -- 2.08757232129817482790e-09
    let C6 = # 0xBDA8FAE9BE8838D4 in  -- -1.13596475577881948265e-11
    let ix = high x in
    let z = x ⊗ x in
    let r = z ⊗ (C1 ⊕ z ⊗ (C2 ⊕ z ⊗ (C3 ⊕ z ⊗ (C4 ⊕ z ⊗ (C5 ⊕ z ⊗ C6))))) in
    let hz = half ⊗ z ⊖ qx ix in
    let a = one ⊖ qx ix in
    cond (nat_lt ix 0x3e400000) one
    (cond (nat_lt ix 0x3fd33333) (one ⊖ (half ⊗ z ⊖ (z ⊗ r ⊖ x ⊗ y)))
    (a ⊖ (hz ⊖ (z ⊗ r ⊖ x ⊗ y))))
