-- Document 02, item 5: what writing and reading back come to, in whole numbers. Statements only: proofs/ proves each.
use Rattle.std.specs.Prelude.{◌≡◌, Bool, true, List, ℕ, ◌*◌, ◌≤◌, ◌<◌, T, ℤ, pos, nat_abs, ◌-ℤ◌, ◌*ℤ◌, Float, Ok, Err}
use Rattle.std.specs.Float.Ieee.{le}
use Rattle.std.specs.Float.Ieee.Exact.{HasValue}
use Rattle.refusals.specs.declared.Refusal.{Refusal}
use Rattle.refusals.specs.declared.Refusal.TheVariants.{BeyondTheWire}
use Rattle.binary64.specs.Steps.{decimal}
use Rattle.binary64.specs.Within.{Within}
use Rattle.geo.specs.declared.Geodetic.{Geodetic}
use Rattle.limits.specs.Heights.{min_height_m, max_height_m}
use Rattle.reader.specs.declared.content.Content.{Content}
use Rattle.reader.specs.Read.{read_of}
use Rattle.wire.specs.declared.Wire.{Wire}
use Rattle.wire.specs.Nearest.{signed, nearest}
use Rattle.wire.specs.Wire.{per_degree, per_metre, in_units, of_position, to_wire, readable, from_wire}

-- ---- the nearest whole number

-- w is the whole number nearest v / c, a half away from zero.
-- "The distance to the exact value is at most half a unit, stated over whole numbers": that of w and v / c, times 2 c.
-- "halves away from zero": where it is exactly half a unit, w is farther from zero than v / c.
pub record Nearest (v : ℤ) (c : ℕ) (w : ℤ) : Type 0 where
  pub half : 2 * nat_abs (w *ℤ pos c -ℤ v) ≤ c
  pub away : 2 * nat_abs (w *ℤ pos c -ℤ v) ≡ c → nat_abs v < nat_abs w * c

-- of every fraction `nearest` is that whole number, and no other is
abbrev pub NearestIsNearest : Type 0
NearestIsNearest =
    (v : ℤ) (c : ℕ) → 0 < c
    → Nearest v c (nearest v c) × ((w : ℤ) → Nearest v c w → w ≡ nearest v c)

-- Of a float that is exactly a / c, or - a / c where s is true: `in_units unit` is the whole number nearest a * unit / c
-- with that sign, and no other is. Every finite binary64 has such an a, with c = 2 ^ 1074 (`FiniteHasUnits`, binary64).
abbrev pub InUnitsIsNearest : Type 0
InUnitsIsNearest =
    (unit : ℕ) (x : Float) (s : Bool) (a c : ℕ) → 0 < c → HasValue x s a c
    → Nearest (signed s (a * unit)) c (in_units unit x)
    × ((w : ℤ) → Nearest (signed s (a * unit)) c w → w ≡ in_units unit x)

-- ---- which records are written, and as what

-- w is the whole number nearest the exact value of x in units, whatever fraction that value is given by
abbrev pub IsNearest : ℕ → Float → ℤ → Type 0
IsNearest unit x w = (s : Bool) (a c : ℕ) → 0 < c → HasValue x s a c → Nearest (signed s (a * unit)) c w

-- not "beyond ±90", "beyond ±180", "beyond the solve's limits"
pub record WithinLimits (p : Geodetic) : Type 0 where
  pub lat : Within (decimal 90 0) p.lat_deg
  pub lon : Within (decimal 180 0) p.lon_deg
  pub height : T (le min_height_m p.height_m) × T (le p.height_m max_height_m)

-- the bytes s are a record of a fix whose position is within the limits, and w has its nearest whole numbers
pub record IsWritten (s : List ℕ) (w : Wire) : Type 0 where
  pub content : Content
  pub taken : read_of s ≡ Ok content
  pub fix : content.answer ≡ 0
  pub limited : WithinLimits content.fix.position
  pub lat : IsNearest per_degree content.fix.position.lat_deg w.lat
  pub lon : IsNearest per_degree content.fix.position.lon_deg w.lon
  pub height : IsNearest per_metre content.fix.position.height_m w.height

-- exactly such records are written, and as these whole numbers
abbrev pub WritesExactly : Type 0
WritesExactly =
    (s : List ℕ) (w : Wire)
    → (to_wire s ≡ Ok w → IsWritten s w) × (IsWritten s w → to_wire s ≡ Ok w)

-- "Turned away: 19 beyond the wire, tested after the reader's refusals."
abbrev pub RefusesOthers : Type 0
RefusesOthers =
    (s : List ℕ)
    → ((why : Refusal) → read_of s ≡ Err why → to_wire s ≡ Err why)
    × ((v : Content) → read_of s ≡ Ok v → ((w : Wire) → IsWritten s w → ⊥) → to_wire s ≡ Err BeyondTheWire)

-- ---- there and back

-- whole numbers that are read back are written again as the same
abbrev pub WritesWhatWasReadBack : Type 0
WritesWhatWasReadBack =
    (w : Wire) → readable w ≡ true
    → (p : Geodetic) × (from_wire w ≡ Ok p) × (of_position p ≡ Ok w)

-- "the same limits": whatever is written can be read back
abbrev pub ReadsBackWhatWasWritten : Type 0
ReadsBackWhatWasWritten = (p : Geodetic) (w : Wire) → of_position p ≡ Ok w → readable w ≡ true
