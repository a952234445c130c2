-- `whitening::rows::put_residual` meets its contract. One store, and one square more (`cost-more`). Assumes nothing.
use mathlib.Core.Path.{refl}
use Rattle.whitening.proofs.Costs.{cost-more}
use Rattle.whitening.proofs.rows.put_residual.Goals as goal

pub returns : goal.returns
returns c = let at = c.args in record {
  r_after = refl;
  value = cost-more at.r.now at.k at.value at.cost c.requires.1 c.requires.2;
}
