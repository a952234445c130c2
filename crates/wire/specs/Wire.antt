-- Document 02, item 5: "latitude and longitude in 10^-7 degree and height in millimetres, i32 each", written and read
-- back. Definitions only.
use Rattle.std.specs.Prelude.{ℕ, ◌*◌, Bool, true, false, cond, ◌&&◌, List, eqb, ℤ, pos, Float, Result, Ok, Err}
use Rattle.std.specs.Int.Signed.{le_z}
use Rattle.std.specs.Float.{nan, inf, fin, binary64}
use Rattle.std.specs.Float.Ieee.{up, down, neg, le, of_int}
use Rattle.refusals.specs.declared.Refusal.{Refusal}
use Rattle.refusals.specs.declared.Refusal.TheVariants.{BeyondTheWire}
use Rattle.binary64.specs.Steps.{◌⊘◌, decimal}
use Rattle.geo.specs.declared.Geodetic.{Geodetic}
use Rattle.limits.specs.Heights.{min_height_m, max_height_m}
use Rattle.reader.specs.declared.content.Content.{Content}
use Rattle.reader.specs.Read.{read_of}
use Rattle.wire.specs.declared.Wire.{Wire}
use Rattle.wire.specs.Nearest.{signed, nearest}

-- how many units a degree and a metre have
abbrev pub per_degree : ℕ
per_degree = 10000000

abbrev pub per_metre : ℕ
per_metre = 1000

-- ---- writing

-- "Each is the whole number nearest the exact value of the float, halves away from zero": x in units, of which there
-- are so many in 1. `fin s m e` is m * up e / down e. What is no number has no units, and 0 stands for them.
unfoldable pub in_units : ℕ → Float → ℤ
unfolding nearest
in_units unit nan = pos 0
in_units unit (inf s) = pos 0
in_units unit (fin s m e) = nearest (signed s (m * up e * unit)) (down e)

-- a not-a-number is within no limits
abbrev pub within : Float → Float → Float → Bool
within low high x = le low x && le x high

-- "Latitude beyond ±90, longitude beyond ±180, heights beyond the solve's limits .. aren't written": of the floats
unfoldable pub writable : Geodetic → Bool
writable p =
    within (neg (decimal 90 0)) (decimal 90 0) p.lat_deg
    && (within (neg (decimal 180 0)) (decimal 180 0) p.lon_deg
    && within min_height_m max_height_m p.height_m)

unfoldable pub of_position : Geodetic → Result Wire Refusal
unfolding writable in_units
of_position p =
    cond (writable p)
    (Ok (record {
      lat = in_units per_degree p.lat_deg;
      lon = in_units per_degree p.lon_deg;
      height = in_units per_metre p.height_m;
    }))
    (Err BeyondTheWire)

-- "records that hold no fix aren't written", "19 beyond the wire, tested after the reader's refusals"
abbrev pub of_reading : Result Content Refusal → Result Wire Refusal
of_reading (Ok v) = cond (eqb v.answer 0) (of_position v.fix.position) (Err BeyondTheWire)
of_reading (Err why) = Err why

unfoldable pub to_wire : List ℕ → Result Wire Refusal
unfolding of_position
to_wire s = of_reading (read_of s)

-- ---- reading back

abbrev pub between : ℤ → ℤ → ℤ → Bool
between low high w = le_z low w && le_z w high

-- "whole numbers beyond the same limits aren't read back"
unfoldable pub readable : Wire → Bool
readable w =
    between (signed true (90 * per_degree)) (signed false (90 * per_degree)) w.lat
    && (between (signed true (180 * per_degree)) (signed false (180 * per_degree)) w.lon
    && between (signed true (1500 * per_metre)) (signed false (25000 * per_metre)) w.height)

-- "The way back divides once."
unfoldable pub back : ℕ → ℤ → Float
back unit w = of_int binary64 w ⊘ decimal unit 0

unfoldable pub from_wire : Wire → Result Geodetic Refusal
unfolding readable back
from_wire w =
    cond (readable w)
    (Ok (record {
      lat_deg = back per_degree w.lat;
      lon_deg = back per_degree w.lon;
      height_m = back per_metre w.height;
    }))
    (Err BeyondTheWire)
