-- The starts of a fit: `starts` of solve.rs, and what `solve_problem` puts before them. Definitions only.
use Rattle.std.specs.Prelude.{ℕ, Bool, cond, List, [], ◌∷◌, ◌++◌, nat_le, Float}
use Rattle.binary64.specs.Steps.{decimal}
use Rattle.geo.specs.Geo.{from_ecef, enu_basis}
use Rattle.dense.specs.Entries.{nth}
use Rattle.problem.specs.Problem.{four}
use Rattle.problem.specs.declared.Altitude.{Altitude}
use Rattle.problem.specs.declared.Altitude.TheVariants.{None, Barometric, Gnss}
use Rattle.starts.specs.Lifted.{centroid, lifted, ring}
use Rattle.starts.specs.Bancroft.{bancroft}

-- `self.altitude.map_or(9_000.0, |(_, metres, _)| metres)`
abbrev pub start_height : Altitude → Float
start_height None = decimal 9000 0
start_height (Barometric metres) = metres
start_height (Gnss metres) = metres

-- `starts` of k receptions: from four on Bancroft's roots and the centroid lifted, and under four the centroid lifted
-- and the ring. Document 01: "the ring is due only under four".
unfoldable pub starts : List Float → List Float → ℕ → Altitude → List (List Float)
starts sites z k altitude =
    let middle = centroid sites k in let surface = from_ecef middle in
    let height = start_height altitude in let above = lifted sites z k surface height in
    cond (nat_le 4 k) (bancroft sites z k middle ++ (above ∷ []))
    (above ∷ ring sites z k height middle (enu_basis surface.lat_deg surface.lon_deg))

-- the starts of a round: the last round's parameters come first (`vec![params]`), where it had any
unfoldable pub starts_after : Bool → List Float → List Float → List Float → ℕ → Altitude → List (List Float)
starts_after had previous sites z k altitude = cond had (four (nth previous) ∷ []) [] ++ starts sites z k altitude
