-- `mlat_solver::records::words_of` meets its contract: the six words in their order. Assumes nothing.
use Rattle.mlat_solver.specs.Records.{words_of}
use Rattle.mlat_solver.proofs.records.words_of.Goals as goal

pub returns : goal.returns
unfolding words_of
returns c = rw (c.kind-kind.ensures, c.version_of-version.ensures)
