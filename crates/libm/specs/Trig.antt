-- Sine and cosine: s_sin.c and s_cos.c of fdlibm 5.3, for angles within ±7. Definitions only.
use Rattle.std.specs.Prelude.{◌%◌, cond, nat_le, Float}
use Rattle.std.specs.Float.{nan}
use Rattle.std.specs.Float.Ieee.{neg, le}
use Rattle.binary64.specs.Steps.{#, nought, abs}
use Rattle.libm.specs.Words.{high, signed, switch}
use Rattle.libm.specs.Kernels.{k_sin, k_cos}
use Rattle.libm.specs.RemPio2.{rem_pio2}
use Rattle.libm.specs.declared.rem_pio2.Reduced.{Reduced}
use Rattle.libm.specs.declared.trig.SinCos.{SinCos}

-- 7, the limit that document 01 sets an angle
abbrev pub limit : Float
limit = # 0x401C000000000000

-- s_sin.c's `switch(n&3)` and s_cos.c's: the sine and the cosine of n * pi / 2 + y
unfoldable pub quadrant : Reduced → SinCos
quadrant y =
    let n = y.n % 4 in
    let s = k_sin y.y0 y.y1 1 in
    let c = k_cos y.y0 y.y1 in
    record { sin = switch n s c (neg s) (neg c); cos = switch n c (neg s) (neg c) s }

-- `sin`. Up to the high word 0x3FE921FB, which is that of pi / 4, the kernel takes x as it is, with no tail. Beyond
-- that |x| is reduced, and the sign of x goes to the result (`rem_pio2`). Past `limit`, where fdlibm goes on reducing,
-- document 01 has not-a-number, and so an infinity and a not-a-number give it.
unfoldable pub sin : Float → Float
sin x = cond (nat_le (high x) 0x3fe921fb) (k_sin x nought 0)
    (cond (le (abs x) limit) (signed x (quadrant (rem_pio2 (abs x))).sin) nan)

-- `cos`, by the same cases
unfoldable pub cos : Float → Float
cos x = cond (nat_le (high x) 0x3fe921fb) (k_cos x nought)
    (cond (le (abs x) limit) (quadrant (rem_pio2 (abs x))).cos nan)

-- document 01's "both together": the pair
unfoldable pub sincos : Float → SinCos
sincos x = record { sin = sin x; cos = cos x }
