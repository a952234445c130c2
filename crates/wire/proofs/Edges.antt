-- Document 02's own numbers, and the ends of the limits, worked out from the definitions alone. Assumes nothing.
-- `fin s m (negsuc k)` is m * 2 ^ -(k + 1), negative where s is true: so 2 ^ -8 is `fin false 1 (negsuc 7)`.
use mathlib.Core.Path.{◌≡◌, refl}
use mathlib.Core.Bool.{true, false}
use lib.IntN.{ℤ, pos, negsuc}
use lib.Ieee.{Float, nan, inf, fin, neg, le, lt, eq, of_int, div, round, of_bits}
use Rattle.binary64.specs.Steps.{#, decimal, nought}
use Rattle.std.specs.Prelude.{Ok, Err}
use Rattle.refusals.specs.declared.Refusal.TheVariants.{BeyondTheWire}
use Rattle.geo.specs.declared.Geodetic.{Geodetic}
use Rattle.limits.specs.Heights.{min_height_m, max_height_m}
use Rattle.wire.specs.declared.Wire.{Wire}
use Rattle.wire.specs.Nearest.{nearest}
use Rattle.wire.specs.Wire.{per_degree, in_units, writable, of_position, readable, back, from_wire}

-- ---- "So 0.5 degree is 5,000,000, 2^-8 degree is 39,063 and -2^-8 degree is -39,063."
pub half-a-degree : in_units per_degree (fin false 1 (negsuc 0)) ≡ pos 5000000
unfolding in_units nearest
half-a-degree = refl

pub a-half-up : in_units per_degree (fin false 1 (negsuc 7)) ≡ pos 39063
unfolding in_units nearest
a-half-up = refl

pub a-half-down : in_units per_degree (fin true 1 (negsuc 7)) ≡ negsuc 39062
unfolding in_units nearest
a-half-down = refl

-- just below 2 ^ -8, and just above -2 ^ -8
pub below-a-half : (in_units per_degree (# 0x3F6FFFFFFFFFFFFF) ≡ pos 39062) × (in_units per_degree (# 0xBF6FFFFFFFFFFFFF) ≡ negsuc 39061)
unfolding in_units nearest of_bits
below-a-half = (refl, refl)

-- -0 and the least value are 0
pub least : (in_units per_degree (# 0x8000000000000000) ≡ pos 0) × (in_units per_degree (# 1) ≡ pos 0)
unfolding in_units nearest of_bits
least = (refl, refl)

-- ---- the limits are written, the next float beyond each is not
abbrev at : Float → Float → Float → Geodetic
at lat lon height = record { lat_deg = lat; lon_deg = lon; height_m = height }

abbrev numbers : ℤ → ℤ → ℤ → Wire
numbers lat lon height = record { lat = lat; lon = lon; height = height }

pub corners
    : (of_position (at (decimal 90 0) (neg (decimal 180 0)) max_height_m) ≡ Ok (numbers (pos 900000000) (negsuc 1799999999) (pos 25000000)))
    × (of_position (at (neg (decimal 90 0)) (decimal 180 0) min_height_m) ≡ Ok (numbers (negsuc 899999999) (pos 1800000000) (negsuc 1499999)))
unfolding of_position writable in_units nearest min_height_m max_height_m neg le lt eq round
corners = (refl, refl)

-- beyond 90, -90, 180, -180, 25,000, -1,500
pub next-beyond
    : (of_position (at (# 0x4056800000000001) nought nought) ≡ Err BeyondTheWire)
    × (of_position (at (# 0xC056800000000001) nought nought) ≡ Err BeyondTheWire)
    × (of_position (at nought (# 0x4066800000000001) nought) ≡ Err BeyondTheWire)
    × (of_position (at nought (# 0xC066800000000001) nought) ≡ Err BeyondTheWire)
    × (of_position (at nought nought (# 0x40D86A0000000001)) ≡ Err BeyondTheWire)
    × (of_position (at nought nought (# 0xC097700000000001)) ≡ Err BeyondTheWire)
unfolding of_position writable in_units nearest min_height_m max_height_m neg le lt eq round of_bits
next-beyond = (refl, refl, refl, refl, refl, refl)

pub no-number
    : (of_position (at nan nought nought) ≡ Err BeyondTheWire) × (of_position (at nought nan nought) ≡ Err BeyondTheWire)
    × (of_position (at nought nought nan) ≡ Err BeyondTheWire) × (of_position (at nought (inf false) nought) ≡ Err BeyondTheWire)
unfolding of_position writable in_units nearest min_height_m max_height_m neg le lt eq round of_bits
no-number = (refl, refl, refl, refl)

-- ---- the way back
pub ends
    : (from_wire (numbers (pos 900000000) (negsuc 1799999999) (negsuc 1499999)) ≡ Ok (at (decimal 90 0) (neg (decimal 180 0)) min_height_m))
    × (from_wire (numbers (negsuc 899999999) (pos 1800000000) (pos 25000000)) ≡ Ok (at (neg (decimal 90 0)) (decimal 180 0) max_height_m))
unfolding from_wire readable back min_height_m max_height_m neg of_int div round
ends = (refl, refl)

pub one-beyond
    : (from_wire (numbers (pos 900000001) (pos 0) (pos 0)) ≡ Err BeyondTheWire)
    × (from_wire (numbers (negsuc 900000000) (pos 0) (pos 0)) ≡ Err BeyondTheWire)
    × (from_wire (numbers (pos 0) (pos 1800000001) (pos 0)) ≡ Err BeyondTheWire)
    × (from_wire (numbers (pos 0) (negsuc 1800000000) (pos 0)) ≡ Err BeyondTheWire)
    × (from_wire (numbers (pos 0) (pos 0) (pos 25000001)) ≡ Err BeyondTheWire)
    × (from_wire (numbers (pos 0) (pos 0) (negsuc 1500000)) ≡ Err BeyondTheWire)
unfolding from_wire readable back
one-beyond = (refl, refl, refl, refl, refl, refl)
