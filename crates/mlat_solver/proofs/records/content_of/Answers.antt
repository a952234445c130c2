-- `mlat_solver::records::content_of` meets its contract, field by field. Assumes nothing.
use mir.Syntax.{w64}
use mir.ValLaws.{to_z-of_z}
use Rattle.mlat_solver.specs.Records.{content_of}
use Rattle.mlat_solver.proofs.records.content_of.Goals as goal

pub returns : goal.returns
unfolding content_of
returns c =
    let args = c.args in
    rw (c.fix_of-fix.ensures, c.altitude_of-altitude.ensures, to_z-of_z w64 args.time c.ranges.time)
