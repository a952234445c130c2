-- `damped::damped` meets its contract. The invariant: the first i of the diagonal are raised. Assumes nothing.
use mathlib.Core.Path.{◌≡◌, refl}
use native.Mathlib.Numerals.{add-one}
use native.Mathlib.Omega.{arith}
use Rattle.damped.specs.Damped.{damped_to}
use Rattle.damped.proofs.Constants.{least-bits}
use Rattle.damped.proofs.damped.Goals as goal

pub loop-i-init : goal.loop-i-init
unfolding damped_to
loop-i-init c = refl

pub loop-i-preserved : goal.loop-i-preserved
unfolding damped_to
loop-i-preserved c = rw (add-one, least-bits, ← c.loop-i.invariant, ← c.max.ensures)

pub returns : goal.returns
returns c = let all : c.loop-i.i ≡ 4 = omega arith in rw all at c.loop-i.invariant
