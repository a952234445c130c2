-- `mlat_solver::records::fix_of` meets its contract, field by field. Assumes nothing.
use mir.Syntax.{w64}
use mir.ValLaws.{to_z-of_z}
use Rattle.mlat_solver.specs.Records.{fix_of}
use Rattle.mlat_solver.proofs.records.fix_of.Goals as goal

pub returns : goal.returns
unfolding fix_of
returns c = rw (c.dof_of-dof.ensures, to_z-of_z w64 c.args.time c.ranges.time)
