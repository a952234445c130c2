-- What a place and its basis promise beyond their steps: document 02, Item 4. Statements only; proofs/ proves each.
use Rattle.std.specs.Prelude.{◌≡◌, ℕ, ◌<◌, true, not, ◌&&◌, T, List, [], ◌∷◌, is_nan, slice_index_or, Float}
use Rattle.std.specs.Float.{nan}
use Rattle.std.specs.Float.Ieee.{eq}
use Rattle.binary64.specs.Steps.{decimal, nought, one, is_finite}
use Rattle.binary64.specs.Meaning.{IsBinary64}
use Rattle.binary64.specs.Within.{Within}
use Rattle.libm.specs.Trig.{limit}
use Rattle.geo.specs.declared.Geodetic.{Geodetic}
use Rattle.geo.specs.Geo.{to_radians, enu_basis, from_ecef}

-- ---- the basis

-- every one of the nine entries lies from -1 to 1
abbrev pub EntriesWithinOne : List (List Float) → Type 0
EntriesWithinOne basis = (i j : ℕ) → i < 3 → j < 3 → Within one (slice_index_or (slice_index_or basis i []) j nan)

-- degrees whose radians are within ±7, as sine and cosine take them
abbrev pub Turn : Float → Type 0
Turn deg = Within limit (to_radians deg)

-- the basis lies from -1 to 1 for every latitude and longitude that sine and cosine take
abbrev pub BasisOfTurns : Type 0
BasisOfTurns = (lat_deg lon_deg : Float) → Turn lat_deg → Turn lon_deg → EntriesWithinOne (enu_basis lat_deg lon_deg)

-- which are all within ±401 degrees
abbrev pub DegreesTurn : Type 0
DegreesTurn = (deg : Float) → IsBinary64 deg → Within (decimal 401 0) deg → Turn deg

-- "Every entry of `enu_basis`, for latitude within ±90 and longitude within ±180, then lies there too"
abbrev pub BasisWithinOne : Type 0
BasisWithinOne =
    (lat_deg lon_deg : Float) → IsBinary64 lat_deg → IsBinary64 lon_deg → Within (decimal 90 0) lat_deg
    → Within (decimal 180 0) lon_deg → EntriesWithinOne (enu_basis lat_deg lon_deg)

-- ---- the place of a point

abbrev pub IsNumber : Float → Type 0
IsNumber x = T (not (is_nan x))

-- its latitude and its longitude are numbers
abbrev pub HasPlace : Geodetic → Type 0
HasPlace g = IsNumber g.lat_deg × IsNumber g.lon_deg

-- Whatever the point: where both are numbers, their radians are within ±7, and so the basis there lies from -1 to 1.
abbrev pub PlacesTurn : Type 0
PlacesTurn =
    (ecef : List Float) → ((k : ℕ) → IsBinary64 (slice_index_or ecef k nan)) → HasPlace (from_ecef ecef)
    → Turn (from_ecef ecef).lat_deg × Turn (from_ecef ecef).lon_deg

-- Both are numbers at every point whose coordinates are finite, but for one: the centre of the earth has no latitude.
abbrev pub IsFinite : Float → Type 0
IsFinite x = IsBinary64 x × (is_finite x ≡ true)

abbrev pub AtCentre : Float → Float → Float → Type 0
AtCentre x y z = T (eq x nought && (eq y nought && eq z nought))

abbrev pub PlacesAreNumbers : Type 0
PlacesAreNumbers =
    (x y z : Float) → IsFinite x → IsFinite y → IsFinite z → (AtCentre x y z → ⊥) → HasPlace (from_ecef (x ∷ y ∷ z ∷ []))

abbrev pub NoneAtCentre : Type 0
NoneAtCentre =
    (x y z : Float) → IsBinary64 x → IsBinary64 y → IsBinary64 z → AtCentre x y z
    → (from_ecef (x ∷ y ∷ z ∷ [])).lat_deg ≡ nan

-- so there, too, the basis lies from -1 to 1
abbrev pub BasisOfPlaces : Type 0
BasisOfPlaces =
    (x y z : Float) → IsFinite x → IsFinite y → IsFinite z → (AtCentre x y z → ⊥)
    → let g = from_ecef (x ∷ y ∷ z ∷ []) in EntriesWithinOne (enu_basis g.lat_deg g.lon_deg)
