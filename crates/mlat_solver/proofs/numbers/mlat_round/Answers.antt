-- `mlat_solver::numbers::mlat_round` meets its contract: it is binary64's rounding, which means what is promised (`is-rounded`). Assumes nothing.
use Rattle.mlat_solver.proofs.Meaning.{is-rounded}
use Rattle.mlat_solver.proofs.numbers.mlat_round.Goals as goal

pub returns : goal.returns
returns c = record {
  value = c.round.ensures;
  meaning = is-rounded _ _ c.well_formed.0.1 c.round.ensures;
}
