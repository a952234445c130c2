-- `libm::rem_pio2::stage` meets its contract: the steps are the definition's. Assumes nothing.
use Rattle.std.proofs.Common.{refl}
use Rattle.libm.specs.RemPio2.{stage}
use Rattle.libm.proofs.rem_pio2.stage.Goals as goal

pub returns : goal.returns
unfolding stage
returns c = refl
