-- `mlat_solver::numbers::mlat_sincos` meets its contract: `sincos_into` writes the two in turn, and both are bounded as promised (`pair`).
-- Assumes nothing.
use Rattle.mlat_solver.proofs.Display.{pair}
use Rattle.mlat_solver.proofs.numbers.mlat_sincos.Goals as goal

pub returns : goal.returns
returns c = let e = c.sincos_into.ensures in record {
  value = e;
  meaning = pair _ c.well_formed.0.1 _ e;
}
