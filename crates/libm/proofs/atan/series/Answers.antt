-- `libm::atan::series` meets its contract: the steps are the definition's. Assumes nothing.
use Rattle.std.proofs.Common.{refl}
use Rattle.libm.specs.Atan.{series}
use Rattle.libm.proofs.atan.series.Goals as goal

pub returns : goal.returns
unfolding series
returns c = refl
