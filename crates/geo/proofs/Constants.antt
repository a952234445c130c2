-- The constants have the bits that the code has: those that Rust's expressions give, computed by the definitions of binary64. Assumes nothing.
use Rattle.std.proofs.Common.{◌≡◌, refl}
use lib.Ieee.{Float, round, sub, mul, div, of_bits}
use Rattle.binary64.specs.Steps.{◌⊘◌, #, decimal}
use Rattle.geo.specs.Geo.{A, F, E2, C}

pub axis : A ≡ # 0x415854A640000000
unfolding A round of_bits
axis = refl

pub flattening : F ≡ # 0x3F6B775A84F3E128
unfolding F round div of_bits
flattening = refl

pub eccentricity : E2 ≡ # 0x3F7B6B90F1FE94F0
unfolding E2 F round sub mul div of_bits
eccentricity = refl

pub light : C ≡ # 0x41B1DE784A000000
unfolding C round of_bits
light = refl

pub radian : decimal 17453292519943295769236907684886 33 ≡ # 0x3F91DF46A2529D39
unfolding round of_bits
radian = refl

pub degree : decimal 57295779513082320876798154814105 30 ≡ # 0x404CA5DC1A63C1F8
unfolding round of_bits
degree = refl

-- with `std::f64::consts::PI`, Rust's `PI / 180.0` and `180.0 / PI` are the same two
abbrev pi : Float
pi = decimal 314159265358979323846264338327950288 35

by-pi : (pi ⊘ decimal 180 0 ≡ # 0x3F91DF46A2529D39) × (decimal 180 0 ⊘ pi ≡ # 0x404CA5DC1A63C1F8)
unfolding round div of_bits
by-pi = (refl, refl)

-- and so are the library's, whose π has these bits
pub by-pi-bits : (# 0x400921FB54442D18 ⊘ # 0x4066800000000000 ≡ # 0x3F91DF46A2529D39) × (# 0x4066800000000000 ⊘ # 0x400921FB54442D18 ≡ # 0x404CA5DC1A63C1F8)
unfolding div of_bits
by-pi-bits = (refl, refl)

-- the literals `1e-9` and `1000.0`
pub nano : decimal 1 9 ≡ # 0x3E112E0BE826D695
unfolding round of_bits
nano = refl

pub thousand : decimal 1000 0 ≡ # 0x408F400000000000
unfolding round of_bits
thousand = refl
