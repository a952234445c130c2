-- Values worked out from the definitions alone, with fdlibm's bits. Assumes nothing.
use Rattle.std.proofs.Common.{◌≡◌, true, false, refl}
use lib.Ieee.{nan, inf, add, sub, mul, div, neg, lt, le, eq, ne, of_int, to_unsigned, of_bits, to_bits}
use Rattle.binary64.specs.Steps.{#, nought, one, two, abs}
use Rattle.binary64.specs.Root.{root}
use Rattle.libm.specs.Words.{high, negative, signed, switch}
use Rattle.libm.specs.Kernels.{k_sin, k_cos, qx}
use Rattle.libm.specs.RemPio2.{npio2_hw, lost, split, stage, rem_pio2}
use Rattle.libm.specs.RemPio2 as reduction
use Rattle.libm.specs.Trig.{quadrant, sin, cos, limit}
use Rattle.libm.specs.Atan.{reduce, series, atan, signs, quarter, x_inf, quotient, atan2, pi, pi-o-2, atanhi}
use Rattle.libm.specs.Hypotenuse.{inf_or_nan, scaled, hypot}
use Rattle.libm.specs.Hypotenuse as hypotenuse

-- ±0; 1, past pi / 4; -2, past pi / 2; the binary64 nearest to pi, which takes three stages; 7, and the next value; not-a-number
sines
    : (sin nought ≡ nought)
    × (sin (neg nought) ≡ neg nought)
    × (sin one ≡ # 0x3FEAED548F090CEE)
    × (sin (neg two) ≡ # 0xBFED18F6EAD1B446)
    × (sin pi ≡ # 0x3CA1A62633145C07)
    × (sin limit ≡ # 0x3FE50608C26D0A08)
    × (sin (# 0x401C000000000001) ≡ nan)
    × (sin nan ≡ nan)
unfolding sin quadrant k_sin k_cos qx rem_pio2 reduction.medium npio2_hw lost split stage high negative signed switch abs neg add sub mul le of_int
    to_unsigned of_bits to_bits
sines = (refl, refl, refl, refl, refl, refl, refl, refl)

-- 0; 0.7, which takes qx; the binary64 nearest to pi / 2, which takes two stages; 2; an infinity
cosines
    : (cos nought ≡ one)
    × (cos (# 0x3FE6666666666666) ≡ # 0x3FE87996529F9D93)
    × (cos pi-o-2 ≡ # 0x3C91A62633145C07)
    × (cos two ≡ # 0xBFDAA22657537205)
    × (cos (inf false) ≡ nan)
unfolding cos quadrant k_sin k_cos qx rem_pio2 reduction.medium npio2_hw lost split stage high switch abs neg add sub mul le of_int
    to_unsigned of_bits to_bits
cosines = (refl, refl, refl, refl, refl)

-- the signs of zero, the infinities, and two quotients
arcs
    : (atan2 nought one ≡ nought)
    × (atan2 nought (neg one) ≡ pi)
    × (atan2 (neg nought) (neg nought) ≡ neg pi)
    × (atan2 one nought ≡ pi-o-2)
    × (atan2 (inf false) (inf true) ≡ # 0x4002D97C7F3321D2)
    × (atan2 one two ≡ atanhi 0)
    × (atan2 (neg one) (neg one) ≡ # 0xC002D97C7F3321D2)
unfolding atan2 atan reduce series signs quarter x_inf quotient high negative signed switch abs neg add sub mul div eq ne of_bits to_bits
arcs = (refl, refl, refl, refl, refl, refl, refl)

-- 3 and 4 give 5, also times 2^600; an infinity with a not-a-number; the least value twice; a subnormal, where high words taken anew would change the
-- last bit; and two of one high word, where the order of the two changes it
lengths
    : (hypot (# 0x4008000000000000) (# 0x4010000000000000) ≡ # 0x4014000000000000)
    × (hypot (# 0x6588000000000000) (# 0x6590000000000000) ≡ # 0x6594000000000000)
    × (hypot (inf true) nan ≡ inf false)
    × (hypot (# 1) (# 1) ≡ # 1)
    × (hypot (# 0x0000001C23CFD4C4) (# 0x001ED0CB49697FEA) ≡ # 0x001ED0CB49765912)
    × (hypot (# 0x3FF01C79790EE11A) (# 0x3FF01C79DAD7FA58) ≡ # 0x3FF6C8E38AB94DAC)
    × (hypot (# 0x3FF01C79DAD7FA58) (# 0x3FF01C79790EE11A) ≡ # 0x3FF6C8E38AB94DAD)
unfolding hypot inf_or_nan scaled hypotenuse.medium root high abs neg add sub mul lt eq of_bits to_bits
lengths = (refl, refl, refl, refl, refl, refl, refl)
