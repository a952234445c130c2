-- `damped::better` meets its contract. Each return is one side of the definition's `&&`. Assumes nothing.
use Rattle.damped.specs.Damped.{better}
use Rattle.damped.proofs.better.Goals as goal

pub returns-then-is_finite : goal.returns-then-is_finite
unfolding better
returns-then-is_finite c = rw (← c.is_finite.ensures, c.if-is_finite.true)

pub returns-else-is_finite : goal.returns-else-is_finite
unfolding better
returns-else-is_finite c = rw (← c.is_finite.ensures, c.if-is_finite.false)
