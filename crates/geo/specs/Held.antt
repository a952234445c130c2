-- What the inner functions of src/curvature.rt promise each other, and what stands for a place where there is none.
-- Nothing that must be believed cites it. Definitions only.
use Rattle.std.specs.Prelude.{◌≡◌, ℕ, ◌+◌, ◌*◌, ◌^◌, ◌<◌, ◌≤◌, Float}
use Rattle.binary64.specs.Steps.{#, nought}
use Rattle.geo.specs.declared.Geodetic.{Geodetic}

-- x lies from 1/2 up to 1 and is m times 2 ^ -53: its exponent's field is 1022, and m has the leading digit besides
abbrev pub BelowOne : Float → ℕ → Type 0
BelowOne x m = (2 ^ 52 ≤ m) × (m < 2 ^ 53) × (x ≡ # (1021 * 2 ^ 52 + m))

-- zeros stand where there is no place
abbrev pub nowhere : Geodetic
nowhere = record { lat_deg = nought; lon_deg = nought; height_m = nought }
