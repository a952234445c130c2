-- `geo::millimetres` meets its contract: the library's cast stops at the ends of its range, and gives 0 for a not-a-number. Assumes nothing.
use Rattle.std.proofs.Common.{ap, ◌∙◌}
use lib.Ieee.{to_signed}
use Rattle.geo.specs.Geo.{millimetres}
use Rattle.geo.proofs.Cast.{held}
use Rattle.geo.proofs.Constants.{thousand}
use Rattle.geo.proofs.millimetres.Goals as goal

pub returns : goal.returns
unfolding millimetres
returns c = rw (thousand, c.saturating_f64_to_i64.ensures) (held _ ∙ ap (to_signed 63) c.round.ensures)
