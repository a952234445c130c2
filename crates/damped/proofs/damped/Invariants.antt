-- `damped::damped` meets its contract. The invariant: the first i of the diagonal are raised. Assumes nothing.
use mathlib.Core.Path.{◌≡◌}
use Rattle.damped.specs.Damped.{damped_to}
use Rattle.damped.proofs.damped.Given as goal

abbrev pub invariant-loop-i : goal.invariant-loop-i
invariant-loop-i l = l.m ≡ damped_to l.information l.lambda l.i
