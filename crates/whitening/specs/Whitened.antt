-- Residuals and slopes of chosen receptions at some parameters p, whitened, and the altitude's row after them:
-- `residual` and `whitened` of solve.rs. Definitions only.
use Rattle.std.specs.Prelude.{List, [], ◌∷◌, ℕ, zero, suc, ◌+◌, get_or, set, replicate, Float}
use Rattle.std.specs.Float.Ieee.{neg}
use Rattle.binary64.specs.Steps.{◌⊖◌, ◌⊘◌, nought, one, decimal}
use Rattle.dense.specs.Entries.{nth}
use Rattle.dense.specs.Solve.{forward}
use Rattle.linalg.specs.Vec3.{sub}
use Rattle.geo.specs.Geo.{from_ecef, enu_basis}
use Rattle.geo.specs.declared.Geodetic.{Geodetic}
use Rattle.problem.specs.Problem.{site_at, position, transmit_m, range}
use Rattle.problem.specs.declared.Altitude.{Altitude}
use Rattle.problem.specs.declared.Altitude.TheVariants.{None, Barometric, Gnss}

-- what a fit is made of: k receptions by their sites and z, the factor that whitens them, and the altitude
pub record Chosen : Type 0 where
  pub k : ℕ
  pub sites : List Float
  pub z : List Float
  pub whitener : List Float
  pub altitude : Altitude

-- what `whitened` gives: how many rows, their residuals r, and their slopes a, b, c and d along the four parameters
pub record Rows : Type 0 where
  pub count : ℕ
  pub r : List Float
  pub a : List Float
  pub b : List Float
  pub c : List Float
  pub d : List Float

abbrev pub rows : ℕ → List Float → List Float → List Float → List Float → List Float → Rows
rows count r a b c d = record {
  count = count;
  r = r;
  a = a;
  b = b;
  c = c;
  d = d;
}

-- the range of reception i at the parameters p: `linalg::norm(delta)`, delta the place of p less the site
abbrev pub range_at : List Float → List Float → ℕ → Float
range_at sites p i = range sites (position p) i

-- `residual`: z - T - |x - site|, from the left
unfoldable pub residual : List Float → List Float → List Float → ℕ → Float
residual sites z p i = nth z i ⊖ transmit_m p ⊖ range_at sites p i

-- its slope along an axis: `-delta[axis] / range`
abbrev pub slope_at : List Float → List Float → ℕ → ℕ → Float
slope_at sites p axis i = neg (nth (sub (position p) (site_at sites i)) axis) ⊘ range_at sites p i

-- reception i before it is whitened: the residual and its four slopes
unfoldable pub raw_row : List Float → List Float → List Float → ℕ → List Float
raw_row sites z p i =
    residual sites z p i
    ∷ slope_at sites p 0 i
    ∷ slope_at sites p 1 i
    ∷ slope_at sites p 2 i
    ∷ neg one
    ∷ []

-- entry j of the row of reception i
abbrev pub raw : List Float → List Float → List Float → ℕ → ℕ → Float
raw sites z p j i = nth (raw_row sites z p i) j

-- the array out with f 0, .., f (k - 1) in its first k places
unfoldable pub fill_to : List Float → (ℕ → Float) → ℕ → List Float
fill_to out f zero = out
fill_to out f (suc k) = set (fill_to out f k) k (f k)

-- room for 32 receptions and the altitude
abbrev pub no_rows : List Float
no_rows = replicate 33 nought

-- entry j of all k rows, whitened: `whitener.forward`
abbrev pub whitened_column : Chosen → List Float → ℕ → List Float
whitened_column C p j = forward C.whitener C.k (fill_to no_rows (raw C.sites C.z p j) C.k)

-- the unit vector up at a place: `enu_basis(..)[2]`
abbrev pub up : Geodetic → List Float
up g = get_or (enu_basis g.lat_deg g.lon_deg) 2 []

-- the slopes of the altitude's row at a place: `up` over sigma, and 0
unfoldable pub up_row : Float → Geodetic → List Float
up_row sigma g = (nth (up g) 0 ⊘ sigma) ∷ (nth (up g) 1 ⊘ sigma) ∷ (nth (up g) 2 ⊘ sigma) ∷ nought ∷ []

-- the altitude's row: `(position.height_m - metres) / sigma`, and its slopes
abbrev pub height_row : Float → Float → Geodetic → List Float
height_row metres sigma g = ((g.height_m ⊖ metres) ⊘ sigma) ∷ up_row sigma g

-- one row more, after the others
abbrev pub push_row : Rows → List Float → Rows
push_row w row = let put : List Float → ℕ → List Float = λ y j. set y w.count (nth row j) in
    rows (w.count + 1) (put w.r 0) (put w.a 1) (put w.b 2) (put w.c 3) (put w.d 4)

-- "the altitude row last", where there is an altitude, whose "one standard deviation" is `BARO_SIGMA_M` = 100 or
-- `GNSS_SIGMA_M` = 15 metres
abbrev pub push_altitude : Altitude → Geodetic → Rows → Rows
push_altitude None g w = w
push_altitude (Barometric metres) g w = push_row w (height_row metres (decimal 100 0) g)
push_altitude (Gnss metres) g w = push_row w (height_row metres (decimal 15 0) g)

-- `whitened`: the rows of the receptions, and the altitude's
unfoldable pub whitened : Chosen → List Float → Rows
whitened C p = let column = whitened_column C p in
    push_altitude C.altitude (from_ecef (position p))
    (rows C.k (column 0) (column 1) (column 2) (column 3) (column 4))
