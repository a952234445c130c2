-- `mlat_solver::records::numbers_of` meets its contract: the eighteen numbers in their order. Assumes nothing.
use Rattle.mlat_solver.specs.Records.{numbers_of}
use Rattle.mlat_solver.proofs.records.numbers_of.Goals as goal

pub returns : goal.returns
unfolding numbers_of
returns c = rw c.metres-metres.ensures
