-- Document 02, item 5, as C has it: whole numbers and positions as the three numbers of a lent array. A refusal leaves
-- the array as found. Definitions only.
use Rattle.std.specs.Prelude.{List, [], ◌∷◌, ℤ, pos, get_or, Float, Result, Ok, Err}
use Rattle.refusals.specs.declared.Refusal.{Refusal}
use Rattle.geo.specs.declared.Geodetic.{Geodetic}
use Rattle.wire.specs.declared.Wire.{Wire}
use Rattle.mlat_solver.specs.Lent.{three_of}

-- latitude, longitude, height
abbrev pub wire_of : List ℤ → Wire
wire_of numbers = record { lat = get_or numbers 0 (pos 0); lon = get_or numbers 1 (pos 0); height = get_or numbers 2 (pos 0) }

abbrev pub numbers_after : Result Wire Refusal → List ℤ → List ℤ
numbers_after (Ok w) found = w.lat ∷ w.lon ∷ w.height ∷ []
numbers_after (Err _) found = found

abbrev pub position_after : Result Geodetic Refusal → List Float → List Float
position_after (Ok p) found = three_of p
position_after (Err _) found = found
