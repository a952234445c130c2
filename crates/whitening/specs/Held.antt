-- What code merely holds: the arrays that a fit lends to each of its steps, which have room and bring what the step
-- before left; the place of the altitude's row; the sum of squares after some turns; chosen receptions made of lent
-- arrays. Nothing that must be believed cites it. Definitions only.
use Rattle.std.specs.Prelude.{◌≡◌, List, ℕ, ◌<◌, zero, suc, length, Float}
use Rattle.binary64.specs.Steps.{nought, ◌⊕◌, ◌⊗◌}
use Rattle.dense.specs.Entries.{nth}
use Rattle.dense.specs.Solve.{forward}
use Rattle.geo.specs.Geo.{from_ecef}
use Rattle.geo.specs.declared.Geodetic.{Geodetic}
use Rattle.geo.specs.Held.{nowhere}
use Rattle.problem.specs.Problem.{position}
use Rattle.problem.specs.declared.Altitude.{Altitude}
use Rattle.problem.specs.declared.Altitude.TheVariants.{None, Barometric, Gnss}
use Rattle.whitening.specs.Whitened.{Chosen, Rows, rows, range_at, raw, fill_to, push_altitude}

-- the first k of an array are the ranges of the receptions
abbrev pub Ranged : List Float → List Float → ℕ → List Float → Type 0
Ranged sites p k ranges = (i : ℕ) → i < k → nth ranges i ≡ range_at sites p i

-- room for 32 receptions and the altitude in each column of slopes
abbrev pub Slopes : List Float → List Float → List Float → List Float → Type 0
Slopes a b c d = (length a ≡ 33) × (length b ≡ 33) × (length c ≡ 33) × (length d ≡ 33)

-- and in the residuals; for 32 receptions in the squares of the ranges and in the ranges
abbrev pub Scratch
    : List Float → List Float → List Float → List Float → List Float → List Float → List Float → Type 0
Scratch r squared ranges a b c d =
    ((length r ≡ 33) × (length squared ≡ 32) × (length ranges ≡ 32)) × Slopes a b c d

-- `whitened_column` over what an array held in the place of zeros: what lies past the k rows stays
abbrev pub column_over : Chosen → List Float → ℕ → List Float → List Float
column_over C p j held = forward C.whitener C.k (fill_to held (raw C.sites C.z p j) C.k)

-- `whitened` over what five arrays held
abbrev pub over : Chosen → List Float → Rows → Rows
over C p held =
    push_altitude C.altitude (from_ecef (position p))
    (rows C.k (column_over C p 0 held.r) (column_over C p 1 held.a) (column_over C p 2 held.b)
    (column_over C p 3 held.c) (column_over C p 4 held.d))

-- the place of the altitude's row: `geo::from_ecef(x)`, which is asked for where there is an altitude; zeros stand for
-- it elsewhere
abbrev pub row_place : Altitude → List Float → Geodetic
row_place None p = nowhere
row_place (Barometric metres) p = from_ecef (position p)
row_place (Gnss metres) p = from_ecef (position p)

-- the slopes of the rows w beside residuals r
abbrev pub beside : List Float → Rows → Rows
beside r w = rows w.count r w.a w.b w.c w.d

-- `cost += r * r`, after i turns
unfoldable pub cost_to : List Float → ℕ → Float
cost_to r zero = nought
cost_to r (suc i) = cost_to r i ⊕ nth r i ⊗ nth r i

abbrev pub chosen : ℕ → List Float → List Float → List Float → Altitude → Chosen
chosen k sites z whitener altitude = record {
  k = k;
  sites = sites;
  z = z;
  whitener = whitener;
  altitude = altitude;
}
