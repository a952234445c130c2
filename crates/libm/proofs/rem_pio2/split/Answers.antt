-- `libm::rem_pio2::split` meets its contract: the steps are the definition's. Assumes nothing.
use Rattle.std.proofs.Common.{refl}
use Rattle.libm.specs.RemPio2.{split}
use Rattle.libm.proofs.rem_pio2.split.Goals as goal

pub returns : goal.returns
unfolding split
returns c = refl
