-- `plausible` of solve.rs: "Where a solution may be: between the height limits and within range of every receiver
-- used." Definitions only.
use Rattle.std.specs.Prelude.{Bool, true, ◌&&◌, List, ℕ, zero, suc, Float}
use Rattle.std.specs.Float.Ieee.{le}
use Rattle.binary64.specs.Steps.{decimal}
use Rattle.geo.specs.Geo.{from_ecef}
use Rattle.problem.specs.Problem.{position, range}
use Rattle.limits.specs.Heights.{min_height_m, max_height_m}

-- `MAX_RANGE_M`
unfoldable pub max_range_m : Float
max_range_m = decimal 600000 0

-- the `all` over the sites, after i of them. Document 01: "Range exactly 600,000 passes."
unfoldable pub near_to : List Float → List Float → ℕ → Bool
near_to sites x zero = true
near_to sites x (suc i) = near_to sites x i && le (range sites x i) max_range_m

-- `plausible`, with k sites: `(MIN_HEIGHT_M..=MAX_HEIGHT_M).contains(&height)`, and all are near. Document 01: "A fit
-- whose height is not a number is not plausible".
unfoldable pub plausible : List Float → ℕ → List Float → Bool
plausible sites k params = let x = position params in let height = (from_ecef x).height_m in
    (le min_height_m height && le height max_height_m) && near_to sites x k
