-- The start above the receivers' centroid and the ring of starts about it: `starts` of solve.rs. Definitions only.
use Rattle.std.specs.Prelude.{ℕ, zero, suc, cond, List, [], ◌∷◌, ◌++◌, pos, nat_lt, slice_index_or, Float}
use Rattle.std.specs.Float.{binary64}
use Rattle.std.specs.Float.Ieee.{of_int}
use Rattle.binary64.specs.Steps.{◌⊕◌, ◌⊖◌, ◌⊗◌, ◌⊘◌, nought, one, decimal}
use Rattle.libm.specs.Trig.{sin, cos}
use Rattle.geo.specs.Geo.{to_ecef, from_ecef}
use Rattle.geo.specs.declared.Geodetic.{Geodetic}
use Rattle.dense.specs.Entries.{nth}
use Rattle.linalg.specs.Vec3.{add, scale}
use Rattle.problem.specs.Problem.{site_at, range}

-- n, `subset.len().max(1) as f64`
unfoldable pub size : ℕ → Float
size k = of_int binary64 (pos (cond (nat_lt 0 k) k 1))

-- the `fold` over the sites, after i of them, where w is 1 / n
unfoldable pub centroid_to : List Float → Float → ℕ → List Float
centroid_to sites w zero = nought ∷ nought ∷ nought ∷ []
centroid_to sites w (suc i) = add (centroid_to sites w i) (scale (site_at sites i) w)

-- `centroid`
unfoldable pub centroid : List Float → ℕ → List Float
centroid sites k = centroid_to sites (one ⊘ size k) k

module _ (sites z : List Float) where
  -- the sum of the transmit times that the first i receptions give the place x. Document 01: "Sums start from plus
  -- zero".
  unfoldable pub sent_to : List Float → ℕ → Float
  sent_to x zero = nought
  sent_to x (suc i) = sent_to x i ⊕ (nth z i ⊖ range sites x i)

  -- `[x[0], x[1], x[2], t]`: a place, and the mean of the times of k receptions
  unfoldable pub timed : ℕ → List Float → List Float
  timed k x = nth x 0 ∷ nth x 1 ∷ nth x 2 ∷ (sent_to x k ⊘ size k) ∷ []

  -- the start at a place's latitude and longitude, and at this height
  unfoldable pub lifted : ℕ → Geodetic → Float → List Float
  lifted k surface height = timed k (to_ecef (record {
    lat_deg = surface.lat_deg;
    lon_deg = surface.lon_deg;
    height_m = height;
  }))

-- `bearing`: `TAU * step as f64 / RING_BEARINGS as f64`, with the digits of `std::f64::consts::TAU`
unfoldable pub bearing : ℕ → Float
bearing step = decimal 628318530717958647692528676655900577 35 ⊗ of_int binary64 (pos step) ⊘ of_int binary64 (pos 8)

-- `linalg::add(centroid, offset)`, where the basis is east, north and up
unfoldable pub ring_place : List Float → List (List Float) → Float → ℕ → List Float
ring_place centroid basis radius step = add centroid
    (add (scale (slice_index_or basis 0 []) (radius ⊗ sin (bearing step)))
    (scale (slice_index_or basis 1 []) (radius ⊗ cos (bearing step))))

module _ (sites z : List Float) (k : ℕ) (height : Float) (centroid : List Float) (basis : List (List Float)) where
  -- the starts at this radius, after `step` bearings
  unfoldable pub circle_to : Float → ℕ → List (List Float)
  circle_to radius zero = []
  circle_to radius (suc step) = circle_to radius step
      ++ (lifted sites z k (from_ecef (ring_place centroid basis radius step)) height ∷ [])

  -- `RING_RADII_M` and `RING_BEARINGS`: eight starts at 100 km, then eight at 300 km
  unfoldable pub ring : List (List Float)
  ring = circle_to (decimal 100000 0) 8 ++ circle_to (decimal 300000 0) 8
