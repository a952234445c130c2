-- geo.rs by the steps of binary64: WGS 84 (NIMA TR8350.2), geodetic position to and from Earth-centred Earth-fixed
-- metres, and the local basis. Definitions only.
use Rattle.std.specs.Prelude.{ℕ, zero, suc, cond, List, [], ◌∷◌, get_or, ℤ, pos, slice_index_or, Float}
use Rattle.std.specs.Float.{nan, binary64}
use Rattle.std.specs.Float.Ieee.{neg, lt, of_int, to_signed}
use Rattle.binary64.specs.Steps.{◌⊕◌, ◌⊖◌, ◌⊗◌, ◌⊘◌, decimal, nought, one, abs}
use Rattle.binary64.specs.Root.{root}
use Rattle.binary64.specs.Rounding.{half_away}
use Rattle.libm.specs.Trig.{sincos}
use Rattle.libm.specs.Atan.{atan2}
use Rattle.libm.specs.Hypotenuse.{hypot}
use Rattle.geo.specs.declared.Geodetic.{Geodetic}
use Rattle.geo.specs.declared.Round.{Round}

-- `A`: the semi-major axis, metres
unfoldable pub A : Float
A = decimal 6378137 0

-- `F`: the flattening, `1.0 / 298.257_223_563`
unfoldable pub F : Float
F = one ⊘ decimal 298257223563 9

-- `E2`: the first eccentricity squared, `F * (2.0 - F)`
unfoldable pub E2 : Float
E2 = F ⊗ (decimal 2 0 ⊖ F)

-- `C`: the speed of light, metres per second
unfoldable pub C : Float
C = decimal 299792458 0

-- Rust's `f64::to_radians` and `f64::to_degrees`. Document 01: "Degrees and radians are one multiplication by the
-- rounded constant." The constants are π / 180 and 180 / π, here by their first 32 digits. Rust writes `PI / 180.0` and
-- `180.0 / PI`, which are the same (proofs/Constants.antt).
unfoldable pub to_radians : Float → Float
to_radians x = x ⊗ decimal 17453292519943295769236907684886 33

unfoldable pub to_degrees : Float → Float
to_degrees x = x ⊗ decimal 57295779513082320876798154814105 30

-- n of `to_ecef` and `from_ecef`, `A / (1.0 - E2 * sin_lat * sin_lat).sqrt()`: the radius of curvature in the prime
-- vertical
unfoldable pub prime_vertical : Float → Float
prime_vertical sin_lat = A ⊘ root (one ⊖ E2 ⊗ sin_lat ⊗ sin_lat)

-- `to_ecef`
unfoldable pub to_ecef : Geodetic → List Float
to_ecef position =
    let lat = sincos (to_radians position.lat_deg) in
    let lon = sincos (to_radians position.lon_deg) in
    let h = position.height_m in
    let n = prime_vertical lat.sin in
    ((n ⊕ h) ⊗ lat.cos ⊗ lon.cos) ∷ ((n ⊕ h) ⊗ lat.cos ⊗ lon.sin) ∷ ((n ⊗ (one ⊖ E2) ⊕ h) ⊗ lat.sin) ∷ []

-- the `if` of `from_ecef`: the height of a point p from the axis and z from the equator's plane, at a latitude
unfoldable pub height : Float → Float → Float → Float → Float → Float
height p z sin_lat cos_lat n =
    cond (lt (decimal 1 9) (abs cos_lat)) (p ⊘ cos_lat ⊖ n) (abs z ⊘ abs sin_lat ⊖ n ⊗ (one ⊖ E2))

-- a round of `from_ecef` without its last call: the height, and the x that atan2 takes beside z
unfoldable pub bowring : Float → Float → Float → Round
bowring p z lat =
    let at = sincos lat in
    let n = prime_vertical at.sin in
    let h = height p z at.sin at.cos n in
    record { height = h; x = p ⊗ (one ⊖ E2 ⊗ n ⊘ (n ⊕ h)) }

-- the loop of `from_ecef`, before it and after k rounds. Its `lat` is `atan2 z x` at every turn.
unfoldable pub bowring_to : Float → Float → ℕ → Round
bowring_to p z zero = record { height = nought; x = p ⊗ (one ⊖ E2) }
bowring_to p z (suc k) = bowring p z (atan2 z (bowring_to p z k).x)

-- `from_ecef`. Document 01: "`from_ecef` makes six rounds."
unfoldable pub from_ecef : List Float → Geodetic
from_ecef ecef =
    let x = get_or ecef 0 nan in
    let y = get_or ecef 1 nan in
    let z = get_or ecef 2 nan in
    let last = bowring_to (hypot x y) z 6 in
    record { lat_deg = to_degrees (atan2 z last.x); lon_deg = to_degrees (atan2 y x); height_m = last.height }

-- `enu_basis`: east, north and up
unfoldable pub enu_basis : Float → Float → List (List Float)
enu_basis lat_deg lon_deg =
    let lat = sincos (to_radians lat_deg) in
    let lon = sincos (to_radians lon_deg) in
    (neg lon.sin ∷ lon.cos ∷ nought ∷ [])
    ∷ ((neg lat.sin ⊗ lon.cos) ∷ (neg lat.sin ⊗ lon.sin) ∷ lat.cos ∷ [])
    ∷ ((lat.cos ⊗ lon.cos) ∷ (lat.cos ⊗ lon.sin) ∷ lat.sin ∷ [])
    ∷ []

-- `(metres * 1000.0).round() as i64`. `to_signed 63` is the cast to i64. Document 01: "`to_mm` saturates at the ends of
-- i64, and a not-a-number gives 0, as Rust's cast does."
unfoldable pub millimetres : Float → ℤ
millimetres metres = to_signed 63 (half_away (metres ⊗ decimal 1000 0))

-- `to_mm`
unfoldable pub to_mm : List Float → List ℤ
to_mm ecef =
    millimetres (slice_index_or ecef 0 nan)
    ∷ millimetres (slice_index_or ecef 1 nan)
    ∷ millimetres (slice_index_or ecef 2 nan)
    ∷ []

-- `value as f64 / 1000.0`
unfoldable pub metres : ℤ → Float
metres value = of_int binary64 value ⊘ decimal 1000 0

-- `from_mm`
unfoldable pub from_mm : List ℤ → List Float
from_mm mm =
    metres (slice_index_or mm 0 (pos 0)) ∷ metres (slice_index_or mm 1 (pos 0)) ∷ metres (slice_index_or mm 2 (pos 0)) ∷ []
