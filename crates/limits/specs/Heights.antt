-- The heights that a solution may have: of solve.rs. Definitions only.
use Rattle.std.specs.Prelude.{Float}
use Rattle.std.specs.Float.Ieee.{neg}
use Rattle.binary64.specs.Steps.{decimal}

-- `MIN_HEIGHT_M` and `MAX_HEIGHT_M`, metres above the ellipsoid
unfoldable pub min_height_m : Float
min_height_m = neg (decimal 1500 0)

unfoldable pub max_height_m : Float
max_height_m = decimal 25000 0
