-- `sets::has` meets its contract: the code reads the digit that the definition names. Assumes nothing.
use mathlib.Core.Path.{refl}
use Rattle.sets.specs.Mask.{has}
use Rattle.sets.proofs.has.Goals as goal

pub returns : goal.returns
unfolding has
returns c = refl
