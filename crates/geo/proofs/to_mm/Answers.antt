-- `geo::to_mm` meets its contract: what `millimetres` gives is an i64, so it comes back from its bits (`held`). Assumes nothing.
use Rattle.geo.specs.Geo.{millimetres, to_mm}
use Rattle.geo.proofs.Cast.{held}
use Rattle.geo.proofs.to_mm.Goals as goal

pub returns : goal.returns
unfolding to_mm millimetres
returns c = simp (c.millimetres.ensures, c.millimetres-2.ensures, c.millimetres-3.ensures, held)
