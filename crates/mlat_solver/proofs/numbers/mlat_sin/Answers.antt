-- `mlat_solver::numbers::mlat_sin` meets its contract: it is libm's sine, which is bounded as promised (`sine`). Assumes nothing.
use Rattle.mlat_solver.proofs.Display.{sine}
use Rattle.mlat_solver.proofs.numbers.mlat_sin.Goals as goal

pub returns : goal.returns
returns c = record {
  value = c.sin.ensures;
  meaning = sine _ c.well_formed.0.1 _ c.sin.ensures;
}
