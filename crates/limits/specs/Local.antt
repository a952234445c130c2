-- The published covariance of solve.rs, and the two methods of its `Solution`, by the steps of binary64. Definitions
-- only.
use Rattle.std.specs.Prelude.{ℕ, cond, List, [], ◌∷◌, eqb, get_or, Float}
use Rattle.binary64.specs.Steps.{◌⊕◌, ◌⊗◌, decimal, nought, half, max_of}
use Rattle.binary64.specs.Root.{root}
use Rattle.geo.specs.Geo.{enu_basis}
use Rattle.geo.specs.declared.Geodetic.{Geodetic}
use Rattle.dense.specs.Entries.{nth, at}
use Rattle.linalg.specs.Vec3.{three}

-- three rows of three: a row, and an entry
abbrev pub row : List (List Float) → ℕ → List Float
row m i = get_or m i []

abbrev pub entry : List (List Float) → ℕ → ℕ → Float
entry m i j = nth (row m i) j

-- `ERROR_INFLATION`: the published standard deviations are the solve's times this
unfoldable pub error_inflation : Float
error_inflation = decimal 11 1

-- `ERROR_FLOOR_M`: "The least one-axis standard deviation a fix claims, metres"
unfoldable pub error_floor_m : Float
error_floor_m = decimal 5 0

-- the entry of row i and column j in `published`, whose diagonal has the floor squared besides
unfoldable pub inflated : ℕ → ℕ → Float → Float
inflated i j x = let value = x ⊗ error_inflation ⊗ error_inflation in
    cond (eqb i j) (value ⊕ error_floor_m ⊗ error_floor_m) value

abbrev pub published_row : List Float → ℕ → List Float
published_row inverse i = three (λ j. inflated i j (at inverse 4 i j))

-- `published`: the 3 x 3 position block of a solve's 4 x 4 covariance
abbrev pub published : List Float → List (List Float)
published inverse = published_row inverse 0 ∷ published_row inverse 1 ∷ published_row inverse 2 ∷ []

-- the loop over b in `enu_covariance`, from a sum and with x for basis[i][a]
abbrev pub plus_row : Float → Float → List Float → List Float → Float
plus_row sum x r f = sum ⊕ x ⊗ nth r 0 ⊗ nth f 0 ⊕ x ⊗ nth r 1 ⊗ nth f 1 ⊕ x ⊗ nth r 2 ⊗ nth f 2

-- the loop over a: e C fᵀ for the covariance C
unfoldable pub between : List Float → List (List Float) → List Float → Float
between e c f = plus_row (plus_row (plus_row nought (nth e 0) (row c 0) f) (nth e 1) (row c 1) f) (nth e 2) (row c 2) f

abbrev pub local_row : List Float → List (List Float) → List (List Float) → List Float
local_row e c basis = three (λ j. between e c (row basis j))

-- `Solution::enu_covariance`, of the solution's position and covariance
unfoldable pub enu_covariance : Geodetic → List (List Float) → List (List Float)
enu_covariance position c =
    let basis = enu_basis position.lat_deg position.lon_deg in
    local_row (row basis 0) c basis ∷ local_row (row basis 1) c basis ∷ local_row (row basis 2) c basis ∷ []

-- `Solution::horizontal_sigma_m`: the root of half the trace of the east-north covariance
unfoldable pub horizontal_sigma_m : Geodetic → List (List Float) → Float
horizontal_sigma_m position c = let enu = enu_covariance position c in
    root (max_of (half ⊗ (entry enu 0 0 ⊕ entry enu 1 1)) nought)
