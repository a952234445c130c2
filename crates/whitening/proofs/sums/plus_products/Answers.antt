-- `whitening::sums::plus_products` meets its contract. By its definition. Assumes nothing.
use mathlib.Core.Path.{refl}
use Rattle.whitening.specs.Normal.{plus_products}
use Rattle.whitening.proofs.sums.plus_products.Goals as goal

pub returns : goal.returns
unfolding plus_products
returns c = refl
