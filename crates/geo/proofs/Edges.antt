-- Values worked out from the definitions alone, with the bits that geo.rs gives. Document 01's own edge is quoted. Assumes nothing.
use Rattle.std.proofs.Common.{◌≡◌, true, false, [], ◌∷◌, pos, negsuc, refl}
use lib.Ieee.{Float, nan, inf, round, neg, add, sub, mul, div, lt, le, eq, ne, of_int, to_signed, to_unsigned, of_bits, to_bits}
use Rattle.binary64.specs.Steps.{#, decimal, nought, one, abs}
use Rattle.binary64.specs.Root.{root}
use Rattle.binary64.specs.Rounding.{half_away}
use Rattle.libm.specs.Words.{high, negative, signed, switch}
use Rattle.libm.specs.Kernels.{k_sin, k_cos, qx}
use Rattle.libm.specs.RemPio2.{npio2_hw, lost, split, stage, rem_pio2}
use Rattle.libm.specs.RemPio2 as reduction
use Rattle.libm.specs.Trig.{quadrant, sin, cos, sincos}
use Rattle.libm.specs.Atan.{reduce, series, atan, signs, quarter, quotient, atan2}
use Rattle.libm.specs.Hypotenuse.{scaled, hypot}
use Rattle.libm.specs.Hypotenuse as length
use Rattle.geo.specs.declared.Geodetic.{Geodetic}
use Rattle.geo.specs.Geo.{A, F, E2, to_radians, to_degrees, prime_vertical, to_ecef, height, bowring, bowring_to, from_ecef, enu_basis, millimetres}
use Rattle.geo.specs.Geo.{to_mm, metres, from_mm}

abbrev at : Float → Float → Float → Geodetic
at lat lon h = record { lat_deg = lat; lon_deg = lon; height_m = h }

-- ---- "ECEF (6378137, 0, 0) is latitude, longitude, height 0."
pub on-the-equator : from_ecef (decimal 6378137 0 ∷ nought ∷ nought ∷ []) ≡ at nought nought nought
unfolding from_ecef bowring_to bowring height prime_vertical to_degrees A E2 F sincos sin cos k_sin k_cos atan2 signs hypot scaled root high negative switch
    abs neg add sub mul div lt eq ne round of_bits to_bits
on-the-equator = refl

-- a pole, where the height is taken along the axis
pub at-a-pole : from_ecef (nought ∷ nought ∷ neg (decimal 6356752314245179 9) ∷ []) ≡ at (# 0xC056800000000000) nought nought
unfolding from_ecef bowring_to bowring height prime_vertical to_degrees A E2 F sincos sin cos quadrant k_sin k_cos qx rem_pio2 split atan2 signs quarter
    hypot
    scaled root high negative signed switch abs neg add sub mul div lt le eq ne round of_bits to_bits
at-a-pole = refl

-- an aircraft
pub aloft : from_ecef (neg (decimal 2694045 0) ∷ neg (decimal 4266893 0) ∷ decimal 38998705 1 ∷ [])
    ≡ at (# 0x4042F12ACC67C563) (# 0xC05E9120DB76F771) (# 0x40BD1274E159EC00)
unfolding from_ecef bowring_to bowring height prime_vertical to_degrees A E2 F sincos sin cos k_sin k_cos qx atan2 atan reduce series signs quotient hypot
    scaled length.medium root high negative signed switch abs neg add sub mul div lt eq ne round of_bits to_bits
aloft = refl

-- ---- the way back, for a place south and east
pub sydney : to_ecef (at (neg (decimal 339 1)) (decimal 1512 1) (decimal 10000 0))
    ≡ # 0xC151BE34DEC0C997 ∷ # 0x41438232C61DC739 ∷ # 0xC14B07936645784A ∷ []
unfolding to_ecef to_radians prime_vertical A E2 F sincos sin cos quadrant k_sin k_cos qx rem_pio2 reduction.medium npio2_hw lost split stage root high
    negative signed switch abs neg add sub mul div le of_int to_unsigned round of_bits to_bits
sydney = refl

-- an angle beyond ±7 radians has no sine and no cosine
pub beyond : to_ecef (at (decimal 402 0) nought nought) ≡ nan ∷ nan ∷ nan ∷ []
unfolding to_ecef to_radians prime_vertical A E2 F sincos sin cos k_sin k_cos root high abs add sub mul div le round of_bits to_bits
beyond = refl

-- ---- where latitude and longitude are 0: east is y, north is z, up is x, and zeros keep their signs
pub no-turn
    : enu_basis nought nought
    ≡ (# 0x8000000000000000 ∷ one ∷ nought ∷ [])
    ∷ (# 0x8000000000000000 ∷ # 0x8000000000000000 ∷ one ∷ [])
    ∷ (one ∷ nought ∷ nought ∷ [])
    ∷ []
unfolding enu_basis to_radians sincos sin cos k_sin k_cos high neg add sub mul round of_bits to_bits
no-turn = refl

-- ---- halves of a millimetre go away from zero, and a number just below a half to zero
pub halves : to_mm (decimal 5 4 ∷ neg (decimal 5 4) ∷ decimal 4999 7 ∷ []) ≡ pos 1 ∷ negsuc 0 ∷ pos 0 ∷ []
unfolding to_mm millimetres half_away to_signed neg mul round
halves = refl

-- "`to_mm` saturates at the ends of i64, and a not-a-number gives 0, as Rust's cast does."
pub ends : (to_mm (decimal 1 0 ∷ nan ∷ neg (decimal 1 0) ∷ []) ≡ pos 1000 ∷ pos 0 ∷ negsuc 999 ∷ [])
    × (to_mm (inf false ∷ inf true ∷ # 0x7FEFFFFFFFFFFFFF ∷ [])
    ≡ pos 0x7fff_ffff_ffff_ffff ∷ negsuc 0x7fff_ffff_ffff_ffff ∷ pos 0x7fff_ffff_ffff_ffff ∷ [])
unfolding to_mm millimetres half_away to_signed neg mul round of_bits
ends = (refl, refl)

-- the ends of i64, and -1: the nearest binary64, then one division
pub from-the-ends : from_mm (negsuc 0x7fff_ffff_ffff_ffff ∷ pos 0x7fff_ffff_ffff_ffff ∷ negsuc 0 ∷ [])
    ≡ # 0xC340624DD2F1A9FC ∷ # 0x4340624DD2F1A9FC ∷ # 0xBF50624DD2F1A9FC ∷ []
unfolding from_mm metres of_int div round of_bits
from-the-ends = refl
