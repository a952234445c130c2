-- The limits and the units have the bits that the code has, and what is within the limits is small. Assumes nothing.
use mathlib.Core.Path.{◌≡◌, refl}
use mathlib.Core.Bool.{Bool, true, ◌&&◌}
use Prim.Native.Nat.{ℕ, ◌*◌, ◌^◌, ◌≤◌, ◌<◌}
use native.Mathlib.Nat.{le_refl, lt_of_le_of_lt}
use lib.Dec.{lit≤}
use lib.IntN.{nat_abs}
use lib.Ieee.{Float, neg, round, of_bits}
use Rattle.binary64.specs.Steps.{#, decimal}
use Rattle.geo.specs.declared.Geodetic.{Geodetic}
use Rattle.limits.specs.Heights.{min_height_m, max_height_m}
use Rattle.wire.specs.Wire.{within, writable, in_units}
use Rattle.wire.specs.Held.{AtMost}
use Rattle.wire.proofs.Reach.{left, right, tested, widen, few}

pub quarter-turn : decimal 90 0 ≡ # 0x4056800000000000
unfolding round of_bits
quarter-turn = refl

pub half-turn : decimal 180 0 ≡ # 0x4066800000000000
unfolding round of_bits
half-turn = refl

pub per-degree : decimal 10000000 0 ≡ # 0x416312D000000000
unfolding round of_bits
per-degree = refl

pub per-metre : decimal 1000 0 ≡ # 0x408F400000000000
unfolding round of_bits
per-metre = refl

-- ---- a position within the limits
pub record Small (p : Geodetic) : Type 0 where
  pub lat : AtMost 90 p.lat_deg
  pub lon : AtMost 180 p.lon_deg
  pub height : AtMost 25000 p.height_m

pub small : (p : Geodetic) → writable p ≡ true → Small p
unfolding writable min_height_m max_height_m neg round
small p h =
    let lat : Bool = within (neg (decimal 90 0)) (decimal 90 0) p.lat_deg in
    let lon : Bool = within (neg (decimal 180 0)) (decimal 180 0) p.lon_deg in
    let height : Bool = within min_height_m max_height_m p.height_m in
    let more = right lat (lon && height) h in
    record {
      lat = tested 45 1 45 1 90 p.lat_deg (le_refl 90) (le_refl 90) (left lat (lon && height) h);
      lon = tested 45 2 45 2 180 p.lon_deg (le_refl 180) (le_refl 180) (left lon height more);
      height = tested 375 2 3125 3 25000 p.height_m (lit≤ tt) (le_refl 25000) (right lon height more);
    }

-- what `nearest` asks
pub asked
    : (n unit : ℕ) (x : Float) → AtMost n x → n ≤ 25000 → unit < 2 ^ 24 → n * unit < 2 ^ 31
    → AtMost 25000 x × (unit < 2 ^ 24) × (nat_abs (in_units unit x) < 2 ^ 31)
asked n unit x h l u r = (widen n 25000 x l h, u, lt_of_le_of_lt (few n unit x h) r)
