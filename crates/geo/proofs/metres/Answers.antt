-- `geo::metres` meets its contract: the cast's bits hold the number itself, which is an i64 (`to_z-of_z`). Assumes nothing.
use Rattle.std.proofs.Common.{w64}
use mir.ValLaws.{to_z-of_z}
use Rattle.geo.specs.Geo.{metres}
use Rattle.geo.proofs.Constants.{thousand}
use Rattle.geo.proofs.metres.Goals as goal

pub returns : goal.returns
unfolding metres
returns c = rw (thousand, c.nearest_i64_to_f64.ensures, to_z-of_z w64 c.args.value c.ranges.value)
