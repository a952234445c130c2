-- `best::plausible` meets its contract. A height within the limits leaves the ranges, and any other none. Assumes nothing.
use mathlib.Core.Path.{◌≡◌, ◌∙◌}
use mathlib.Core.Bool.{Bool, ◌&&◌}
use mathlib.Core.List.{List}
use Prim.Native.Nat.{ℕ}
use lib.Ieee.{Float, le}
use Rattle.geo.specs.Geo.{from_ecef}
use Rattle.geo.specs.declared.Geodetic.{Geodetic}
use Rattle.problem.specs.Problem.{position}
use Rattle.limits.specs.Heights.{min_height_m, max_height_m}
use Rattle.best.specs.Plausible.{near_to, plausible}
use Rattle.best.proofs.plausible.Goals as goal

-- by the height's test and that of the ranges
by_parts : (sites p : List Float) (k : ℕ) {at : Geodetic} {flies r : Bool}
    → at ≡ from_ecef (position p) → flies ≡ (le min_height_m at.height_m && le at.height_m max_height_m) → r
    ≡ (flies && near_to sites (position p) k) → r ≡ plausible sites k p
unfolding plausible
by_parts sites p k place height near = near ∙ rw (height, place)

pub returns-then-flying : goal.returns-then-flying
returns-then-flying c = by_parts _ _ _ c.requires.1 c.flying.ensures
    (rw c.if-flying.true c.all_near.ensures)

pub returns-else-flying : goal.returns-else-flying
returns-else-flying c = by_parts _ _ _ c.requires.1 c.flying.ensures (rw c.if-flying.false)
