-- `mlat_solver::numbers::mlat_cos` meets its contract: it is libm's cosine, which is bounded as promised (`cosine`). Assumes nothing.
use Rattle.mlat_solver.proofs.Display.{cosine}
use Rattle.mlat_solver.proofs.numbers.mlat_cos.Goals as goal

pub returns : goal.returns
returns c = record {
  value = c.cos.ensures;
  meaning = cosine _ c.well_formed.0.1 _ c.cos.ensures;
}
