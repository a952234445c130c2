-- What the altitude's row promises beyond its steps: document 02, Item 4. Statements only; proofs/Meaning.antt proves
-- all.
use Rattle.std.specs.Prelude.{List, ℕ, ◌<◌, Float}
use Rattle.binary64.specs.Steps.{one}
use Rattle.binary64.specs.Meaning.{IsBinary64}
use Rattle.binary64.specs.Within.{Within}
use Rattle.geo.specs.Geo.{from_ecef}
use Rattle.geo.specs.Meaning.{Turn, HasPlace, IsFinite, AtCentre}
use Rattle.geo.specs.declared.Geodetic.{Geodetic}
use Rattle.dense.specs.Entries.{nth}
use Rattle.problem.specs.Problem.{position}
use Rattle.whitening.specs.Whitened.{up}

-- what `up_row` divides by sigma lies from -1 to 1
abbrev pub UpIn : Geodetic → Type 0
UpIn g = (j : ℕ) → j < 3 → Within one (nth (up g) j)

-- "and so does the altitude row before its division": at a place whose latitude and longitude sine and cosine take
abbrev pub UpWithinOne : Type 0
UpWithinOne = (g : Geodetic) → Turn g.lat_deg → Turn g.lon_deg → UpIn g

-- so in a fit: at any parameters p whose position has a latitude and a longitude that are numbers
abbrev pub UpOfPlaces : Type 0
UpOfPlaces =
    (p : List Float) → ((k : ℕ) → IsBinary64 (nth p k)) → HasPlace (from_ecef (position p))
    → UpIn (from_ecef (position p))

-- as every finite position has, but the centre of the earth
abbrev pub UpOfParameters : Type 0
UpOfParameters =
    (p : List Float) → IsFinite (nth p 0) → IsFinite (nth p 1) → IsFinite (nth p 2)
    → (AtCentre (nth p 0) (nth p 1) (nth p 2) → ⊥) → UpIn (from_ecef (position p))
