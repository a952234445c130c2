-- An angle less a multiple of pi/2: e_rem_pio2.c of fdlibm 5.3, for angles from pi/4 to 7. Definitions only.
use Rattle.std.specs.Prelude.{ℕ, ◌-◌, ◌/◌, ◌^◌, cond, not, [], ◌∷◌, pos, ◌==◌, nat_le, nat_lt, slice_index_or, Float}
use Rattle.std.specs.Float.{nan, binary64}
use Rattle.std.specs.Float.Ieee.{of_int, to_unsigned}
use Rattle.binary64.specs.Steps.{◌⊕◌, ◌⊖◌, ◌⊗◌, #, half}
use Rattle.libm.specs.Words.{high}
use Rattle.libm.specs.declared.rem_pio2.Reduced.{Reduced}
use Rattle.libm.specs.declared.rem_pio2.Rest.{Rest}

-- the constants of e_rem_pio2.c, of which each part of pi / 2 has 33 binary digits, and with a t is the rest of pi / 2
-- after it: pio2_1 1.57079632673412561417e+00 and pio2_1t 6.07710050650619224932e-11 pio2_2 6.07710050630396597660e-11
-- and pio2_2t 2.02226624879595063154e-21 pio2_3 2.02226624871116645580e-21 and pio2_3t 8.47842766036889956997e-32
abbrev pub pio2 : ℕ → Float
pio2 k = slice_index_or (# 0x3FF921FB54400000 ∷ # 0x3DD0B4611A600000 ∷ # 0x3BA3198A2E000000 ∷ []) (k - 1) nan

abbrev pub pio2t : ℕ → Float
pio2t k = slice_index_or (# 0x3DD0B4611A626331 ∷ # 0x3BA3198A2E037073 ∷ # 0x397B839A252049C1 ∷ []) (k - 1) nan

-- `npio2_hw[n-1]`, the high word of n * pi / 2: fdlibm's first four, since an angle up to 7 has an n from 1 to 4
unfoldable pub npio2_hw : ℕ → ℕ
npio2_hw n = cond (n == 1) 0x3ff921fb (cond (n == 2) 0x400921fb (cond (n == 3) 0x4012d97c 0x401921fb))

-- `i = j-((__HI(y)>>20)&0x7ff)`, where `j = ix>>20`: how far the exponent's field of y lies below that of x. An i below
-- 0 counts as 0 here: the tests are i > 16 and i > 49.
unfoldable pub lost : Float → Float → ℕ
lost x y = high x / 2 ^ 20 - high y / 2 ^ 20

-- `y[0] = r-w; y[1] = (r-y[0])-w;`, with the n that is returned
unfoldable pub split : ℕ → Float → Float → Reduced
split k r w = let y = r ⊖ w in record { n = k; y0 = y; y1 = (r ⊖ y) ⊖ w }

-- a second or third stage: `t = r; w = fn*part; r = t-w; w = fn*tail-((t-r)-w);`
unfoldable pub stage : Float → Float → Float → Float → Rest
stage t f part tail =
    let v = f ⊗ part in
    let s = t ⊖ v in
    record { r = s; w = f ⊗ tail ⊖ ((t ⊖ s) ⊖ v) }

-- "medium size", from 3 pi / 4 on. Two choices decide bits. n is x * invpio2 + 1/2 cut to a whole number, not the
-- nearest one; f is n as a float, fdlibm's fn. And there is a second stage only where x has the high word of n * pi / 2
-- and the first loses more than 16 places, and a third only where still more than 49 are lost.
unfoldable pub medium : Float → Reduced
medium x =
    let invpio2 = # 0x3FE45F306DC9C883 in  -- 6.36619772367581382433e-01, which is 2 / pi
    let n = to_unsigned 64 (x ⊗ invpio2 ⊕ half) in
    let f = of_int binary64 (pos n) in
    let r = x ⊖ f ⊗ pio2 1 in
    let w = f ⊗ pio2t 1 in
    let second = stage r f (pio2 2) (pio2t 2) in
    let third = stage second.r f (pio2 3) (pio2t 3) in
    cond (not (high x == npio2_hw n)) (split n r w)
    (cond (nat_le (lost x (r ⊖ w)) 16) (split n r w)
    (cond (nat_le (lost x (second.r ⊖ second.w)) 49) (split n second.r second.w)
    (split n third.r third.w)))

-- `__ieee754_rem_pio2` of |x|, past pi / 4. For a negative x fdlibm takes the same steps with every sign turned, which
-- turns the signs of y[0], y[1] and n and no other bit: cosine does not change, and sine gets the sign of x. Below the
-- high word 0x4002D97C, which is that of 3 pi / 4, n is 1, and there are two stages at most, the second where x has the
-- high word of pi / 2.
unfoldable pub rem_pio2 : Float → Reduced
rem_pio2 x =
    let z = x ⊖ pio2 1 in
    cond (nat_lt (high x) 0x4002d97c) (cond (not (high x == 0x3ff921fb)) (split 1 z (pio2t 1))
    (split 1 (z ⊖ pio2 2) (pio2t 2))) (medium x)
