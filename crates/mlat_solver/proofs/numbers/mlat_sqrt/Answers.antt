-- `mlat_solver::numbers::mlat_sqrt` meets its contract: it is the root of binary64, which means what is promised (`is-root`). Assumes nothing.
use Rattle.mlat_solver.proofs.Meaning.{is-root}
use Rattle.mlat_solver.proofs.numbers.mlat_sqrt.Goals as goal

pub returns : goal.returns
returns c = record {
  value = c.sqrt.ensures;
  meaning = is-root _ _ c.well_formed.0.1 c.sqrt.ensures;
}
