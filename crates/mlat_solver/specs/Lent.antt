-- Positions and rows of three as the numbers of a lent array, which C has in their place. Definitions only.
use Rattle.std.specs.Prelude.{List, [], ◌∷◌, Float}
use Rattle.geo.specs.declared.Geodetic.{Geodetic}
use Rattle.dense.specs.Entries.{nth, at}
use Rattle.linalg.specs.Vec3.{three}
use Rattle.limits.specs.Local.{entry}

-- latitude, longitude, height
abbrev pub geodetic_of : List Float → Geodetic
geodetic_of numbers = record { lat_deg = nth numbers 0; lon_deg = nth numbers 1; height_m = nth numbers 2 }

abbrev pub three_of : Geodetic → List Float
three_of position = position.lat_deg ∷ position.lon_deg ∷ position.height_m ∷ []

-- three rows of three, one after the other
abbrev pub rows_of : List Float → List (List Float)
rows_of numbers = three (at numbers 3 0) ∷ three (at numbers 3 1) ∷ three (at numbers 3 2) ∷ []

abbrev pub nine_of : List (List Float) → List Float
nine_of b = entry b 0 0 ∷ entry b 0 1 ∷ entry b 0 2 ∷ entry b 1 0 ∷ entry b 1 1 ∷ entry b 1 2 ∷ entry b 2 0 ∷ entry b 2 1
    ∷ entry b 2 2 ∷ []
