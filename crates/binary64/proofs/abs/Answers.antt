-- `binary64::abs` meets its contract: the library's word for it is the definition (`same`). Assumes nothing.
use mathlib.Core.Path.{◌≡◌, refl, ◌∙◌}
use mathlib.Core.Bool.{false}
use lib.Ieee.{Float, nan, inf, fin}
use Rattle.std.specs.Float.{float_with_sign}
use Rattle.binary64.specs.Steps.{abs}
use Rattle.binary64.proofs.abs.Goals as goal

same : (x : Float) → float_with_sign false x ≡ abs x
unfolding float_with_sign abs
same nan = refl
same (inf s) = refl
same (fin s m e) = refl

pub returns : goal.returns
returns c = c.abs.ensures.value ∙ same c.args.x
