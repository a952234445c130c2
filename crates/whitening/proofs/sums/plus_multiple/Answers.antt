-- `whitening::sums::plus_multiple` meets its contract. By its definition. Assumes nothing.
use mathlib.Core.Path.{refl}
use Rattle.whitening.specs.Normal.{plus_multiple}
use Rattle.whitening.proofs.sums.plus_multiple.Goals as goal

pub returns : goal.returns
unfolding plus_multiple
returns c = refl
